use Rattle.def_trace_text.proofs.DbgTerms.{dbg_line_is_no_term}
use Rattle.def_trace_text.proofs.laws.a_line_is_of_one_kind.Goals as goal

pub returns : goal.returns
returns c = dbg_line_is_no_term
