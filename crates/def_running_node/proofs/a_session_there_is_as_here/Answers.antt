use Rattle.def_running_node.proofs.NodeSessions.{same_session_there, child_has_no_other_flag, new_flags_stay, same_message_there}
use Rattle.def_running_node.proofs.SameMarks.{same_marks_there}
use Rattle.def_running_node.proofs.a_session_there_is_as_here.Goals as goal

pub returns : goal.returns
returns c = record { session = same_session_there; child = child_has_no_other_flag; new_flags = new_flags_stay; message = same_message_there; marks = same_marks_there }
