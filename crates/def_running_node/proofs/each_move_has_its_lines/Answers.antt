use Rattle.def_running_node.proofs.NodeNotes.{each_move_has_lines}
use Rattle.def_running_node.proofs.SessionsAlone.{session_alone_has_its_lines}
use Rattle.def_running_node.proofs.each_move_has_its_lines.Goals as goal

pub returns : goal.returns
returns c = record { each = each_move_has_lines; alone = session_alone_has_its_lines }
