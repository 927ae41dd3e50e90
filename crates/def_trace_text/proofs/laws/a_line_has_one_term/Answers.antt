use Rattle.def_trace_text.proofs.TextLines.{lines_are}
use Rattle.def_trace_text.proofs.TermTexts.{term_text_is}
use Rattle.def_trace_text.proofs.laws.a_line_has_one_term.Goals as goal

pub returns : goal.returns
returns c = record { lines = lines_are; term = term_text_is }
