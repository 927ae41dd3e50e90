-- What is said of one step through an expected output and one that was found (own).
-- Depends on alignments, on the lines of a text, and on what is said of a line of an alignment.
use Rattle.std.specs.Prelude.{ℕ, List}
use Rattle.def_formats.specs.Lines.{before_byte}
use Rattle.def_alignment.specs.Alignments.{LineStep, in_both, in_first, in_second}
use Rattle.def_notice.specs.DifferenceTexts.{AlignedSide, of_both, of_expected, of_found}

-- whose line it is: the first of the two outputs is the expected one
abbrev pub side_by : LineStep → AlignedSide
side_by in_both = of_both
side_by in_first = of_expected
side_by in_second = of_found

-- the line, by what is left of both: the next line of the output that has it
abbrev pub line_by : LineStep → (expected found : List ℕ) → List ℕ
line_by in_both expected found = before_byte 10 expected
line_by in_first expected found = before_byte 10 expected
line_by in_second expected found = before_byte 10 found
