use Rattle.def_explain.proofs.NodeMoves.{move_difference_is_computed}
use Rattle.def_explain.proofs.NodeCommands.{no_command_no_difference}
use Rattle.def_explain.proofs.a_move_differs_by_a_command.Goals as goal

pub returns-clause-computed : goal.returns-clause-computed
returns-clause-computed c = move_difference_is_computed

pub returns-clause-none : goal.returns-clause-none
returns-clause-none c = no_command_no_difference
