-- What an output that isn't the one that is expected has otherwise, and the line that says it (own): the exit status is 1.
-- Depends on nothing. Lines are counted from 1, and a line that isn't printable has no text here.
use Rattle.std.specs.Prelude.{◌≡◌, ◌≢◌, ◌⊎◌, ℕ, ◌-◌, Bool, ◌&&◌, not, List, ◌++◌, length, drop, Option, Some, None, codes, decimal, if◌then◌else◌}
use Rattle.std.specs.Str.{bytes_eq}

-- one of the two outputs
pub data Side : Type 0 where
  expected_output : Side
  found_output : Side

abbrev pub side_text : Side → List ℕ
side_text expected_output = codes "expected"
side_text found_output = codes "found"

-- a line of an alignment: of both outputs, or of one of them alone
pub data AlignedSide : Type 0 where
  of_both : AlignedSide
  of_expected : AlignedSide
  of_found : AlignedSide

-- the sign before it, as `diff -u` of POSIX has it
abbrev pub aligned_sign : AlignedSide → List ℕ
aligned_sign of_both = codes " "
aligned_sign of_expected = codes "-"
aligned_sign of_found = codes "+"

-- so many lines, of which the first has this number; where there are none, the number is that of the line before them
pub record LineRange : Type 0 where
  pub first : ℕ
  pub count : ℕ

-- FIRST,COUNT
abbrev pub range_text : LineRange → List ℕ
range_text r = decimal r.first ++ codes "," ++ decimal r.count

-- what there is to say
pub data OutputDifference : Type 0 where
  -- a line that the other output lacks
  one_line : Side → (number : ℕ) → (text : Option (List ℕ)) → OutputDifference
  -- two lines of one number; they have texts where both are printable
  two_lines : (number : ℕ) → (expected found : List ℕ) → OutputDifference
  lines_without_text : (number : ℕ) → OutputDifference
  -- the same, but for the line feed at the end
  last_line_feed : (number : ℕ) → OutputDifference
  -- lines are missing here: lines of both come after them, or none
  no_line : Side → OutputDifference
  end_of_output : Side → OutputDifference
  -- there is more to say
  more_lines : Side → OutputDifference
  more_differences : OutputDifference
  -- a line that is expected ends in a carriage return
  line_with_return : (number : ℕ) → OutputDifference
  -- of an alignment, as `diff -u` has it: which sign is of which output, which lines come next, and a line
  aligned_output : Side → OutputDifference
  aligned_ranges : (expected found : LineRange) → OutputDifference
  aligned_line : AlignedSide → (text : Option (List ℕ)) → OutputDifference

-- a line with its number
abbrev pub numbered_line : Side → ℕ → Option (List ℕ) → List ℕ
numbered_line side n None = side_text side ++ codes " line " ++ decimal n ++ codes ", which isn't printable"
numbered_line side n (Some text) = side_text side ++ codes " line " ++ decimal n ++ codes ": " ++ text

-- the sign of an output, three times, and its name
abbrev pub aligned_name : Side → List ℕ
aligned_name expected_output = codes "--- expected"
aligned_name found_output = codes "+++ found"

-- what stands for a line after its sign
abbrev pub aligned_text : Option (List ℕ) → List ℕ
aligned_text None = codes "(a line that isn't printable)"
aligned_text (Some text) = text

-- the line, or of two lines with texts both
abbrev pub output_difference_text : OutputDifference → List ℕ
output_difference_text (one_line side n text) = numbered_line side n text
output_difference_text (two_lines n one other) = numbered_line expected_output n (Some one) ++ codes "\n" ++ numbered_line found_output n (Some other)
output_difference_text (lines_without_text n) = codes "line " ++ decimal n ++ codes " differs"
output_difference_text (last_line_feed n) = codes "line " ++ decimal n ++ codes " differs in the line feed at its end"
output_difference_text (no_line side) = side_text side ++ codes " no line here"
output_difference_text (end_of_output side) = side_text side ++ codes " the end of the output"
output_difference_text (more_lines side) = side_text side ++ codes " more lines"
output_difference_text more_differences = codes "more lines may differ"
output_difference_text (line_with_return n) = codes "expected line " ++ decimal n ++ codes " ends in a carriage return, which no line of an output has"
output_difference_text (aligned_output side) = aligned_name side
output_difference_text (aligned_ranges one other) = codes "@@ -" ++ range_text one ++ codes " +" ++ range_text other ++ codes " @@"
output_difference_text (aligned_line side text) = aligned_sign side ++ aligned_text text

-- ---- which of them is said

-- of a line that the other output lacks: its text, or that it isn't printable
abbrev pub SaysLine : Side → ℕ → List ℕ → OutputDifference → Type 0
SaysLine side n line x = (x ≡ one_line side n (Some line)) ⊎ (x ≡ one_line side n None)

-- of two lines of one number: nothing where they are the same, else both, or that one of them isn't printable
abbrev pub SaysPair : ℕ → (expected found : List ℕ) → Option OutputDifference → Type 0
SaysPair n one other None = one ≡ other
SaysPair n one other (Some x) = (one ≢ other) × ((x ≡ two_lines n one other) ⊎ (x ≡ lines_without_text n))

-- the line ends in a carriage return
abbrev pub ends_in_return : List ℕ → Bool
ends_in_return line = bytes_eq (drop (length line - 1) line) (codes "\r")

-- of two lines of one number: that the expected one ends in a carriage return, where the other doesn't
abbrev pub return_difference : ℕ → (expected found : List ℕ) → Option OutputDifference
return_difference n one other = if ends_in_return one && not (ends_in_return other) then Some (line_with_return n) else None

-- of a line of an alignment: its text, or that it isn't printable
abbrev pub SaysAlignedLine : AlignedSide → List ℕ → OutputDifference → Type 0
SaysAlignedLine side line x = (x ≡ aligned_line side (Some line)) ⊎ (x ≡ aligned_line side None)

-- of an output that has no line where the other has some
abbrev pub lack_of_lines : Side → (is_end : Bool) → OutputDifference
lack_of_lines side is_end = if is_end then end_of_output side else no_line side
