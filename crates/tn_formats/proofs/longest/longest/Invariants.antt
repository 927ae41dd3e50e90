use Rattle.std.proofs.Common.{◌≡◌, ◌+◌, ◌≤◌, length}
use Rattle.def_formats.specs.Sections.{section_lines}
use Rattle.def_formats.specs.Summaries.{longest, longest_from}
use Rattle.tn_formats.specs.Values.{line_seen}
use Rattle.tn_formats.proofs.longest.longest.Given as goal

-- what is left decides from the best so far
abbrev pub invariant-loop-line : goal.invariant-loop-line
invariant-loop-line l =
    (longest (section_lines l.text) ≡ longest_from (l.number + 1) (line_seen l.best) (section_lines l.rest))
    × (l.number + length l.rest ≤ length l.text)

abbrev pub decreases-loop-line : goal.decreases-loop-line
decreases-loop-line l = length l.rest
