use Rattle.std.proofs.Common.{◌≡◌, ◌++◌, length}
use Rattle.def_formats.specs.Lines.{text_lines}
use Rattle.tn_alignment.specs.Tables.{line_texts}
use Rattle.tn_expectation.proofs.alignment.lines_of.Given as goal

-- the lines so far and those that are left are all lines
abbrev pub invariant-loop-rest : goal.invariant-loop-rest
invariant-loop-rest l = line_texts l.lines.items ++ text_lines l.rest ≡ text_lines l.text

abbrev pub decreases-loop-rest : goal.decreases-loop-rest
decreases-loop-rest l = length l.rest
