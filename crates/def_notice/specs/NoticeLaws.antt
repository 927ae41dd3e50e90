-- What is promised of the lines that a command says beside its output (own).
-- Depends on what these are, and on line feeds.
use Rattle.std.specs.Prelude.{◌≡◌, ◌↔◌, ◌+◌, ℕ, List, [], ◌∷◌, ◌++◌, Option, Some, None}
use Rattle.def_text.specs.Places.{line_feeds}
use Rattle.def_notice.specs.FaultTexts.{FaultSaid, SystemReason, broken_pipe}
use Rattle.def_notice.specs.DifferenceTexts.{OutputDifference, one_line, two_lines, aligned_line}
use Rattle.def_notice.specs.NoticeTexts.{Notice, given_line, of_fault_because, no_file, no_value, TestTextFault, fault_in_words, of_test_text, no_session, no_message, of_difference, lacks_a_line, has_a_line, lacks_a_listing, notice_text, notice_of_fault}

-- the words that a line of a difference is given
abbrev pub words_of_difference : OutputDifference → List ℕ
words_of_difference (one_line side n (Some text)) = text
words_of_difference (two_lines n one other) = one ++ other
words_of_difference (aligned_line side (Some text)) = text
words_of_difference x = []

-- those of a text of a test
abbrev pub words_of_test_fault : TestTextFault → List ℕ
words_of_test_fault (fault_in_words words) = words
words_of_test_fault f = []

-- the words that a line is given, one after another: names, texts and the system's reasons
abbrev pub words_of_notice : Notice → List ℕ
words_of_notice (given_line line) = line
words_of_notice (of_fault_because f reason) = reason
words_of_notice (no_file [] reason) = []
words_of_notice (no_file (b ∷ bs) reason) = (b ∷ bs) ++ reason
words_of_notice (no_value text option reason) = text ++ option ++ reason
words_of_notice (of_test_text text f) = words_of_test_fault f
words_of_notice (no_session name None) = name
words_of_notice (no_session name (Some sessions)) = name ++ sessions
words_of_notice (no_message session n messages) = session
words_of_notice (of_difference x) = words_of_difference x
words_of_notice (lacks_a_line line) = line
words_of_notice (has_a_line line) = line
words_of_notice (lacks_a_listing name) = name
words_of_notice n = []

-- how many line feeds it has of its own: two lines that differ are two lines, and where to read more stands under a wrong value
abbrev pub line_feeds_of_notice : Notice → ℕ
line_feeds_of_notice (of_difference (two_lines n one other)) = 1
line_feeds_of_notice (no_value text option reason) = 2
line_feeds_of_notice n = 0

-- so each other is one line, where what it is given has no line feed
abbrev pub NoticeIsALine : Type 0
NoticeIsALine = (n : Notice) → line_feeds (notice_text n) ≡ line_feeds (words_of_notice n) + line_feeds_of_notice n

-- a fault is said, but where whoever read the output is gone
abbrev pub FaultIsSaid : Type 0
FaultIsSaid = (f : FaultSaid) (r : Option SystemReason) → (notice_of_fault f r ≡ None) ↔ (r ≡ Some broken_pipe)
