use Rattle.std.proofs.Common.{◌≡◌, length}
use Rattle.def_formats.specs.Lines.{text_lines}
use Rattle.def_formats.specs.Sections.{before_section}
use Rattle.tn_expectation.specs.Expectations.{are_same_lines}
use Rattle.tn_expectation.proofs.listing.is_section.Given as goal

-- what is left is the same just where the whole is
abbrev pub invariant-loop-rest : goal.invariant-loop-rest
invariant-loop-rest l =
    are_same_lines (before_section (text_lines l.rest)) (text_lines l.expected) ≡ are_same_lines (before_section (text_lines l.text)) (text_lines l.lines)

abbrev pub decreases-loop-rest : goal.decreases-loop-rest
decreases-loop-rest l = length l.rest
