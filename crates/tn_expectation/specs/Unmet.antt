-- What is said of an output that isn't what is expected (own).
-- Depends on what is said beside an output.
use Rattle.std.specs.Prelude.{ℕ, Bool, if◌then◌else◌, List}
use Rattle.def_notice.specs.NoticeTexts.{Notice, lacks_a_line, has_a_line}

-- of a line that the output must not have and has, or must have and hasn't
abbrev pub notice_of_line : (line : List ℕ) → (is_there : Bool) → Notice
notice_of_line line is_there = if is_there then has_a_line line else lacks_a_line line
