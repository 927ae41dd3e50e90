use Rattle.std.proofs.Common.{◌≡◌, ◌++◌, ◌+◌, ◌≤◌, length}
use Rattle.def_formats.specs.Sections.{section_lines}
use Rattle.def_formats.specs.JsonRows.{json_lines, numbered_rows}
use Rattle.def_formats.specs.MovedRows.{moved_row}
use Rattle.tn_formats.proofs.moved_rows.put_moved_messages.Given as goal

-- what was written and the rows of what is left are the rows of all
abbrev pub invariant-loop-line : goal.invariant-loop-line
invariant-loop-line g l =
    (l.out.lines.items ++ json_lines (numbered_rows (moved_row l.names.name.now l.names.tracer.now l.moves) (l.number + 1) (section_lines l.rest))
    ≡ l.fn.out.lines.items ++ json_lines (numbered_rows (moved_row l.names.name.now l.names.tracer.now l.moves) 1 (section_lines l.text))) × (l.number + length l.rest ≤ length l.text)

abbrev pub decreases-loop-line : goal.decreases-loop-line
decreases-loop-line g l = length l.rest
