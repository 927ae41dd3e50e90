use Rattle.std.proofs.Common.{◌≡◌, ◌++◌, length}
use Rattle.def_formats.specs.Lines.{text_lines}
use Rattle.def_formats.specs.Sections.{by_sections}
use Rattle.def_formats.specs.MovedRows.{journal_part, journal_text}
use Rattle.tn_formats.proofs.moved_rows.journal_text.Given as goal

-- the line that was found and that of what is left are that of all
abbrev pub invariant-loop-rest : goal.invariant-loop-rest
invariant-loop-rest g l = l.journal.items ++ by_sections journal_part (text_lines l.rest) ≡ journal_text l.output

abbrev pub decreases-loop-rest : goal.decreases-loop-rest
decreases-loop-rest g l = length l.rest
