use Rattle.std.proofs.Common.{◌≡◌, ◌+◌, ◌≤◌, length}
use Rattle.def_formats.specs.Sections.{section_lines}
use Rattle.tn_formats.proofs.section.line_count.Given as goal

-- the lines so far and those that are left are all
abbrev pub invariant-loop-after : goal.invariant-loop-after
invariant-loop-after l = (length (section_lines l.text) ≡ l.count + length (section_lines l.rest)) × (l.count + length l.rest ≤ length l.text)

abbrev pub decreases-loop-after : goal.decreases-loop-after
decreases-loop-after l = length l.rest
