use Rattle.std.proofs.Common.{◌≡◌, ◌++◌, ◌+◌, ◌≤◌, length}
use Rattle.def_formats.specs.Lines.{text_lines}
use Rattle.def_formats.specs.JsonRows.{json_lines, numbered_rows, line_row, text_json}
use Rattle.tn_formats.proofs.json_lines.text_json.Given as goal

-- what was written and the rows of what is left are the rows of all
abbrev pub invariant-loop-rest : goal.invariant-loop-rest
invariant-loop-rest g l = (l.out.lines.items ++ json_lines (numbered_rows line_row (l.number + 1) (text_lines l.rest)) ≡ text_json l.text) × (l.number + length l.rest ≤ length l.text)

abbrev pub decreases-loop-rest : goal.decreases-loop-rest
decreases-loop-rest g l = length l.rest
