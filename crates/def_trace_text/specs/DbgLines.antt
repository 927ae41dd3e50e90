-- The lines that `dbg` prints of trace messages, and the text of the message that a line stands for ("tracer/0" of the module `dbg` of OTP 27's runtime_tools). `~p` breaks a long term into several lines, each of which but the first begins with a blank.
-- Depends on the formats of `dbg`, and on the lines of a text.
use Rattle.std.specs.Prelude.{ℕ, Bool, false, not, ◌&&◌, ◌||◌, List, [], ◌∷◌, ◌++◌, if◌then◌else◌}
use Rattle.def_trace_text.specs.Lines.{trace_text_lines, is_passed_over, without_blanks, term_text}
use Rattle.def_trace_text.specs.DbgFormats.{begins_with_byte, dbg_formats, first_format, text_by_format}

-- ---- messages over several lines

-- the line is one of `dbg`: it begins with `(`, as no term does
abbrev pub is_dbg_line : List ℕ → Bool
is_dbg_line line = begins_with_byte 40 line

-- the line goes on with the message of the line before it, where that one is of `dbg`: it begins with a blank, and has more than blanks and a comment
abbrev pub is_further : List ℕ → Bool
is_further line = begins_with_byte 32 line && not (is_passed_over line)

-- the first lines of these that go on, each after a line feed
abbrev pub further_text : List (List ℕ) → List ℕ
further_text [] = []
further_text (line ∷ lines) = if is_further line then 10 ∷ line ++ further_text lines else []

-- the line with those of the next lines that go on with it, where it is of `dbg`
abbrev pub with_further : List ℕ → List (List ℕ) → List ℕ
with_further line next = if is_dbg_line line then line ++ further_text next else line

-- the same, or nothing where it goes on with the line before it; inside of a message it may
abbrev pub whole_line : Bool → List ℕ → List (List ℕ) → List ℕ
whole_line inside line next = if inside && is_further line then [] else with_further line next

-- after the line a message may go on
abbrev pub is_inside_after : Bool → List ℕ → Bool
is_inside_after inside line = (inside && is_further line) || is_dbg_line line

-- each line with those that go on with it; in their places are empty lines
abbrev pub whole_lines : Bool → List (List ℕ) → List (List ℕ)
whole_lines inside [] = []
whole_lines inside (line ∷ next) = whole_line inside line next ∷ whole_lines (is_inside_after inside line) next

-- the lines of a text, so
abbrev pub whole_text_lines : List ℕ → List (List ℕ)
whole_text_lines text = whole_lines false (trace_text_lines text)

-- ---- texts of messages

-- the text of the message that a line of `dbg` stands for
abbrev pub dbg_text : List ℕ → List ℕ
dbg_text line = text_by_format (first_format dbg_formats (without_blanks line)) (without_blanks line)

-- the text of the message that a line of either kind stands for
abbrev pub trace_line_text : List ℕ → List ℕ
trace_line_text line = if is_dbg_line line then dbg_text line else term_text line
