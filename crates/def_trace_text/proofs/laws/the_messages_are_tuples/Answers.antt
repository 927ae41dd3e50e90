use Rattle.def_trace_text.proofs.TraceMessages.{messages_are}
use Rattle.def_trace_text.proofs.laws.the_messages_are_tuples.Goals as goal

pub returns : goal.returns
returns c = messages_are
