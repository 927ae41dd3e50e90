use Rattle.def_trace_text.proofs.DbgParts.{lines_of_dbg}
use Rattle.def_trace_text.proofs.laws.a_line_of_dbg_is_its_format.Goals as goal

pub returns : goal.returns
returns c = lines_of_dbg
