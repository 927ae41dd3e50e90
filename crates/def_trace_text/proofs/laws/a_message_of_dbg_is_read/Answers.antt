use Rattle.def_trace_text.proofs.DbgMessages.{words_read, send_read, kinds_read}
use Rattle.def_trace_text.proofs.laws.a_message_of_dbg_is_read.Goals as goal

pub returns : goal.returns
returns c = λ terms ok. (words_read terms ok, send_read terms ok, kinds_read terms ok)
