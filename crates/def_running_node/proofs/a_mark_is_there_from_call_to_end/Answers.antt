use Rattle.def_running_node.proofs.Marks.{silent_call_has_no_mark, call_has_its_mark, no_mark_without_call, ended_frame_has_no_mark, other_frame_has_its_mark, frame_has_one_mark, newest_frame_is_first, returns_mark_has_no_exception, other_process_has_no_exception}
use Rattle.def_running_node.proofs.a_mark_is_there_from_call_to_end.Goals as goal

pub returns : goal.returns
returns c = record {
  silent = silent_call_has_no_mark;
  call = call_has_its_mark;
  no_other = no_mark_without_call;
  end = ended_frame_has_no_mark;
  until_then = other_frame_has_its_mark;
  one = frame_has_one_mark;
  newest = newest_frame_is_first;
  returns = returns_mark_has_no_exception;
  other_process = other_process_has_no_exception;
}
