use Rattle.def_independence.proofs.OwnSteps.{silent_independent}
use Rattle.def_independence.proofs.silent_moves_are_independent.Goals as goal

pub returns : goal.returns
returns c = silent_independent
