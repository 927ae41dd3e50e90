use Rattle.def_independence.proofs.Picks.{one_goes_first}
use Rattle.def_independence.proofs.one_pick_goes_first.Goals as goal

pub returns : goal.returns
returns c = one_goes_first
