use Rattle.def_explore.proofs.Passes.{moves_are_of_a_pass}
use Rattle.def_explore.proofs.moves_are_of_a_pass.Goals as goal

pub returns : goal.returns
returns c = moves_are_of_a_pass
