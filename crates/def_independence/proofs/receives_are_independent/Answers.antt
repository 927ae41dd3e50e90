use Rattle.def_independence.proofs.Receives.{receives_independent}
use Rattle.def_independence.proofs.receives_are_independent.Goals as goal

pub returns : goal.returns
returns c = receives_independent
