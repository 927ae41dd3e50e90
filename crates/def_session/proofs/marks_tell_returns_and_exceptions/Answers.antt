use Rattle.def_session.proofs.Marks.{exception_trace_marks, return_trace_marks, other_effects_mark_nothing, call_is_marked, exception_is_told, no_other_exception, return_is_told, no_other_return}
use Rattle.def_session.proofs.marks_tell_returns_and_exceptions.Goals as goal

pub returns : goal.returns
returns c = record {
  exceptions = exception_trace_marks;
  returns = return_trace_marks;
  neither = other_effects_mark_nothing;
  call = call_is_marked;
  raised = exception_is_told;
  no_other_raised = no_other_exception;
  returned = return_is_told;
  no_other_returned = no_other_return;
}
