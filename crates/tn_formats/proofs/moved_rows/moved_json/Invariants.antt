use Rattle.std.proofs.Common.{◌≡◌, ◌++◌, ◌+◌, ◌≤◌, length, map}
use Rattle.def_formats.specs.Lines.{text_lines}
use Rattle.def_formats.specs.MovedRows.{moved_sections, moved_json}
use Rattle.tn_formats.proofs.moved_rows.moved_json.Given as goal

-- what was written and the rows of what is left are the rows of all
abbrev pub invariant-loop-rest : goal.invariant-loop-rest
invariant-loop-rest g l =
    (l.out.lines.items ++ moved_sections (map (λ m. m.items) l.moves) l.place (text_lines l.rest) ≡ moved_json (map (λ m. m.items) l.moves) l.output) × (l.place + length l.rest ≤ length l.output)

abbrev pub decreases-loop-rest : goal.decreases-loop-rest
decreases-loop-rest g l = length l.rest
