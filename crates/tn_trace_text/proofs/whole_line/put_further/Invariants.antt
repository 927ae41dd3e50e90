use Rattle.std.proofs.Common.{◌≡◌, ◌++◌, length}
use Rattle.def_trace_text.specs.Lines.{trace_text_lines}
use Rattle.def_trace_text.specs.DbgLines.{further_text}
use Rattle.tn_trace_text.proofs.whole_line.put_further.Given as goal

-- what is still to come
abbrev pub invariant-loop-rest : goal.invariant-loop-rest
invariant-loop-rest g l = l.out.items ++ further_text (trace_text_lines l.rest) ≡ l.fn.out.items ++ further_text (trace_text_lines l.fn.text)

abbrev pub decreases-loop-rest : goal.decreases-loop-rest
decreases-loop-rest g l = length l.rest
