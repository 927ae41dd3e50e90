use Rattle.def_trace_text.proofs.WholeLines.{whole_lines_count, other_lines}
use Rattle.def_trace_text.proofs.laws.a_whole_line_keeps_its_number.Goals as goal

pub returns : goal.returns
returns c = record { number = whole_lines_count; others = other_lines }
