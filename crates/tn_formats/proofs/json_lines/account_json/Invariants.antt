use Rattle.std.proofs.Common.{◌≡◌, ◌++◌, length}
use Rattle.def_formats.specs.Lines.{text_lines}
use Rattle.def_formats.specs.JsonRows.{json_lines, account_rows, account_json}
use Rattle.tn_formats.proofs.json_lines.account_json.Given as goal

-- what was written and the rows of what is left are the rows of all
abbrev pub invariant-loop-move_line : goal.invariant-loop-move_line
invariant-loop-move_line g l = l.out.lines.items ++ json_lines (account_rows l.move_line (text_lines l.rest)) ≡ account_json l.account

abbrev pub decreases-loop-move_line : goal.decreases-loop-move_line
decreases-loop-move_line g l = length l.rest
