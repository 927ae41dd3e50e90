-- What is said has the line feeds of the words that it is given, and few of its own.
use Rattle.std.proofs.Common.{◌≡◌, ◌+◌, ℕ, zero, suc, List, [], ◌∷◌, ◌++◌, codes, decimal, refl, ◌∙◌, arith, Option, Some, None}
use Rattle.def_text.specs.Places.{line_feeds}
use Rattle.def_text.proofs.Columns.{line_feeds-append}
use Rattle.def_notice.specs.FaultTexts.{FaultSaid, of_reading, of_writing, of_memory, of_workers, of_bytes, of_listings, of_expectation, output_text, fault_text}
use Rattle.def_notice.specs.DifferenceTexts.{Side, expected_output, found_output, OutputDifference, one_line, two_lines, lines_without_text, last_line_feed, no_line, end_of_output, more_lines, more_differences, line_with_return, AlignedSide, of_both, of_expected, of_found, LineRange, range_text, aligned_sign, aligned_output, aligned_ranges, aligned_line, side_text, numbered_line, output_difference_text}
use Rattle.def_notice.specs.NoticeTexts.{NodeCommand, by_same_picks, by_journal, node_command_text, TestText, the_list, the_caller, the_specification, test_text_name, TestTextFault, is_no_list, is_no_function, is_too_long, goes_on_otherwise, is_too_deep, is_too_large, has_no_memory, fault_in_words, test_fault_text, InputText, the_script, the_picks, the_moves, the_output, the_listing, input_text_name, Notice, given_line, of_fault, of_fault_because, no_file, both_from_input, no_value, of_test_text, no_session, no_message, no_move, no_node_move, no_chosen_move, no_forms, pick_of_nobody, node_moves, of_difference, lacks_a_line, has_a_line, lacks_a_listing, notice_text}
use Rattle.def_notice.specs.NoticeLaws.{words_of_test_fault, words_of_notice, line_feeds_of_notice}
use Rattle.def_notice.proofs.LineFeeds.{decimal_has_none}

-- ---- texts put together

-- before a text without line feeds
before_none : (xs ys : List ℕ) → line_feeds ys ≡ 0 → line_feeds (xs ++ ys) ≡ line_feeds xs
before_none xs ys e = omega (arith, e, line_feeds-append xs ys)

before_number : (xs : List ℕ) (n : ℕ) → line_feeds (xs ++ decimal n) ≡ line_feeds xs
before_number xs n = before_none xs (decimal n) (decimal_has_none n)

-- ---- faults

output_is_a_line : (bytes : List ℕ) (most : ℕ) → line_feeds bytes ≡ 0 → line_feeds (output_text bytes most) ≡ 0
output_is_a_line bytes most e = before_number (bytes ++ codes " bytes, and --max-output is ") most ∙ before_none bytes (codes " bytes, and --max-output is ") refl ∙ e

fault_is_a_line : (f : FaultSaid) → line_feeds (fault_text f) ≡ 0
fault_is_a_line of_reading = refl
fault_is_a_line (of_writing n) = before_none (decimal n) (codes " bytes") refl ∙ decimal_has_none n
fault_is_a_line of_memory = refl
fault_is_a_line of_workers = refl
fault_is_a_line (of_bytes n most) = output_is_a_line (decimal n) most (decimal_has_none n)
fault_is_a_line (of_listings most) = output_is_a_line (codes "more than " ++ decimal most) most (decimal_has_none most)
fault_is_a_line (of_expectation most) =
    let front = codes "fault expect: the file has more than " in
    before_number (front ++ decimal most ++ codes " bytes, and --max-output is ") most
    ∙ before_none (front ++ decimal most) (codes " bytes, and --max-output is ") refl
    ∙ before_number front most

-- ---- differences

side_is_a_line : (s : Side) → line_feeds (side_text s) ≡ 0
side_is_a_line expected_output = refl
side_is_a_line found_output = refl

-- a side and words
side_and_words : (s : Side) (words : List ℕ) → line_feeds words ≡ 0 → line_feeds (side_text s ++ words) ≡ 0
side_and_words s words e = before_none (side_text s) words e ∙ side_is_a_line s

side_and_number : (s : Side) (n : ℕ) → line_feeds (side_text s ++ codes " line " ++ decimal n) ≡ 0
side_and_number s n = before_number (side_text s ++ codes " line ") n ∙ side_and_words s (codes " line ") refl

text_of_line : (s : Side) (n : ℕ) (text : List ℕ) → line_feeds (numbered_line s n (Some text)) ≡ line_feeds text
text_of_line s n text =
    let front = side_text s ++ codes " line " ++ decimal n in
    omega (arith, line_feeds-append (front ++ codes ": ") text, before_none front (codes ": ") refl, side_and_number s n)

no_text_of_line : (s : Side) (n : ℕ) → line_feeds (numbered_line s n None) ≡ 0
no_text_of_line s n = before_none (side_text s ++ codes " line " ++ decimal n) (codes ", which isn't printable") refl ∙ side_and_number s n

-- two lines, with a line feed between them
both_lines : (n : ℕ) (one other : List ℕ) → line_feeds (output_difference_text (two_lines n one other)) ≡ line_feeds (one ++ other) + 1
both_lines n one other =
    let first = numbered_line expected_output n (Some one) in
    let second = numbered_line found_output n (Some other) in
    let split : line_feeds (first ++ codes "\n") ≡ line_feeds first + 1 = line_feeds-append first (codes "\n") in
    omega (arith, split, line_feeds-append (first ++ codes "\n") second, text_of_line expected_output n one, text_of_line found_output n other, line_feeds-append one other)

range_is_a_line : (r : LineRange) → line_feeds (range_text r) ≡ 0
range_is_a_line r = before_number (decimal r.first ++ codes ",") r.count ∙ before_none (decimal r.first) (codes ",") refl ∙ decimal_has_none r.first

ranges_are_a_line : (one other : LineRange) → line_feeds (notice_text (of_difference (aligned_ranges one other))) ≡ 0
ranges_are_a_line one other =
    let first = range_text one ++ codes " +" in
    before_none (first ++ range_text other) (codes " @@") refl
    ∙ before_none first (range_text other) (range_is_a_line other)
    ∙ before_none (range_text one) (codes " +") refl
    ∙ range_is_a_line one

aligned_is_a_line : (side : AlignedSide) (text : List ℕ) → line_feeds (aligned_sign side ++ text) ≡ line_feeds text + 0
aligned_is_a_line of_both text = omega arith
aligned_is_a_line of_expected text = omega arith
aligned_is_a_line of_found text = omega arith

difference_is_a_line : (x : OutputDifference) → line_feeds (notice_text (of_difference x)) ≡ line_feeds (words_of_notice (of_difference x)) + line_feeds_of_notice (of_difference x)
difference_is_a_line (one_line s n (Some text)) = omega (arith, text_of_line s n text)
difference_is_a_line (one_line s n None) = no_text_of_line s n
difference_is_a_line (two_lines n one other) = both_lines n one other
difference_is_a_line (lines_without_text n) = before_none (decimal n) (codes " differs") refl ∙ decimal_has_none n
difference_is_a_line (last_line_feed n) = before_none (decimal n) (codes " differs in the line feed at its end") refl ∙ decimal_has_none n
difference_is_a_line (no_line s) = side_and_words s (codes " no line here") refl
difference_is_a_line (end_of_output s) = side_and_words s (codes " the end of the output") refl
difference_is_a_line (more_lines s) = side_and_words s (codes " more lines") refl
difference_is_a_line more_differences = refl
difference_is_a_line (line_with_return n) = before_none (decimal n) (codes " ends in a carriage return, which no line of an output has") refl ∙ decimal_has_none n
difference_is_a_line (aligned_output expected_output) = refl
difference_is_a_line (aligned_output found_output) = refl
difference_is_a_line (aligned_ranges one other) = ranges_are_a_line one other
difference_is_a_line (aligned_line side None) = aligned_is_a_line side (codes "(a line that isn't printable)")
difference_is_a_line (aligned_line side (Some text)) = aligned_is_a_line side text

-- ---- what else is said

input_is_a_line : (t : InputText) → line_feeds (input_text_name t) ≡ 0
input_is_a_line the_script = refl
input_is_a_line the_picks = refl
input_is_a_line the_moves = refl
input_is_a_line the_output = refl
input_is_a_line the_listing = refl

inputs_are_a_line : (one other : InputText) → line_feeds (notice_text (both_from_input one other)) ≡ 0
inputs_are_a_line one other =
    let first = input_text_name one ++ codes " and the " in
    before_none (first ++ input_text_name other) (codes " can't both be standard input") refl
    ∙ before_none first (input_text_name other) (input_is_a_line other)
    ∙ before_none (input_text_name one) (codes " and the ") refl
    ∙ input_is_a_line one

name_is_a_line : (t : TestText) → line_feeds (test_text_name t) ≡ 0
name_is_a_line the_list = refl
name_is_a_line the_caller = refl
name_is_a_line the_specification = refl

fault_of_test_is_a_line : (f : TestTextFault) → line_feeds (test_fault_text f) ≡ line_feeds (words_of_test_fault f)
fault_of_test_is_a_line is_no_list = refl
fault_of_test_is_a_line is_no_function = refl
fault_of_test_is_a_line is_too_long = refl
fault_of_test_is_a_line (goes_on_otherwise at) = decimal_has_none at
fault_of_test_is_a_line (is_too_deep at) = decimal_has_none at
fault_of_test_is_a_line (is_too_large at) = decimal_has_none at
fault_of_test_is_a_line has_no_memory = refl
fault_of_test_is_a_line (fault_in_words words) = refl

test_is_a_line : (t : TestText) (f : TestTextFault) → line_feeds (notice_text (of_test_text t f)) ≡ line_feeds (words_of_notice (of_test_text t f)) + 0
test_is_a_line t f =
    let last : line_feeds (notice_text (of_test_text t f)) ≡ line_feeds (test_text_name t ++ codes ": ") + line_feeds (test_fault_text f) = line_feeds-append (test_text_name t ++ codes ": ") (test_fault_text f) in
    omega (arith, last, before_none (test_text_name t) (codes ": ") refl, name_is_a_line t, fault_of_test_is_a_line f)

command_is_a_line : (c : NodeCommand) → line_feeds (node_command_text c) ≡ 0
command_is_a_line by_same_picks = refl
command_is_a_line by_journal = refl

moves_are_a_line : (n m : ℕ) (c : NodeCommand) → line_feeds (notice_text (node_moves n m c)) ≡ 0
moves_are_a_line n m c =
    let differing = decimal n ++ codes " of " in
    let moves = differing ++ decimal m ++ codes " moves; " in
    before_none (moves ++ node_command_text c) (codes " shows where") refl
    ∙ before_none moves (node_command_text c) (command_is_a_line c)
    ∙ before_none (differing ++ decimal m) (codes " moves; ") refl
    ∙ before_number differing m
    ∙ before_none (decimal n) (codes " of ") refl
    ∙ decimal_has_none n

pick_is_a_line : (n pick : ℕ) → line_feeds (notice_text (pick_of_nobody n pick)) ≡ 0
pick_is_a_line n pick =
    before_none (decimal n ++ codes " is " ++ decimal pick) (codes ", and no process has that pid: pids are 100 to 163, and 0 takes the next command") refl
    ∙ before_number (decimal n ++ codes " is ") pick
    ∙ before_none (decimal n) (codes " is ") refl
    ∙ decimal_has_none n

value_is_three_lines : (text option reason : List ℕ) → line_feeds (notice_text (no_value text option reason)) ≡ line_feeds (text ++ option ++ reason) + 2
value_is_three_lines text option reason =
    let end = codes "\n\nFor more information, try '--help'." in
    let one = text ++ codes "' for '" in
    let two = one ++ option ++ codes "': " in
    let last : line_feeds (notice_text (no_value text option reason)) ≡ line_feeds (two ++ reason) + 2 = line_feeds-append (two ++ reason) end in
    omega (arith, last, line_feeds-append two reason, before_none (one ++ option) (codes "': ") refl, line_feeds-append one option, before_none text (codes "' for '") refl, line_feeds-append (text ++ option) reason, line_feeds-append text option)

file_is_a_line : (path reason : List ℕ) → line_feeds (codes "error: " ++ path ++ codes ": " ++ reason) ≡ line_feeds (path ++ reason) + 0
file_is_a_line path reason =
    let last : line_feeds (codes "error: " ++ path ++ codes ": " ++ reason) ≡ line_feeds (path ++ codes ": ") + line_feeds reason = line_feeds-append (path ++ codes ": ") reason in
    omega (arith, last, before_none path (codes ": ") refl, line_feeds-append path reason)

reason_is_a_line : (f : FaultSaid) (reason : List ℕ) → line_feeds (notice_text (of_fault_because f reason)) ≡ line_feeds reason + 0
reason_is_a_line f reason =
    let last : line_feeds (notice_text (of_fault_because f reason)) ≡ line_feeds (fault_text f ++ codes ": ") + line_feeds reason = line_feeds-append (fault_text f ++ codes ": ") reason in
    omega (arith, last, before_none (fault_text f) (codes ": ") refl, fault_is_a_line f)

sessions_are_a_line : (name sessions : List ℕ) → line_feeds (notice_text (no_session name (Some sessions))) ≡ line_feeds (name ++ sessions) + 0
sessions_are_a_line name [] = omega (arith, before_none name (codes ": it creates none") refl, before_none name [] refl)
sessions_are_a_line name (b ∷ bs) =
    let text : line_feeds (codes ": it creates " ++ (b ∷ bs)) ≡ line_feeds (b ∷ bs) = refl in
    omega (arith, line_feeds-append name (codes ": it creates " ++ (b ∷ bs)), text, line_feeds-append name (b ∷ bs))

moves_of_run_are_a_line : (n : ℕ) (moves : Option ℕ) → line_feeds (notice_text (no_move n moves)) ≡ 0
moves_of_run_are_a_line n None = before_none (decimal n) [] refl ∙ decimal_has_none n
moves_of_run_are_a_line n (Some zero) = before_none (decimal n) (codes ": it has none") refl ∙ decimal_has_none n
moves_of_run_are_a_line n (Some (suc m)) = before_none (decimal n) (codes ": its moves are 1 to " ++ decimal (suc m)) (decimal_has_none (suc m)) ∙ decimal_has_none n

messages_are_a_line : (session : List ℕ) (n : ℕ) (messages : Option ℕ) → line_feeds (notice_text (no_message session n messages)) ≡ line_feeds session + 0
messages_are_a_line session n messages = go messages
  where
    said : (more : List ℕ) → line_feeds more ≡ 0 → line_feeds (codes "error: the session " ++ session ++ codes " sends no message " ++ decimal n ++ more) ≡ line_feeds session + 0
    said more none =
        let begun : List ℕ = codes "error: the session " ++ session ++ codes " sends no message " in
        let whole : line_feeds (codes "error: the session " ++ session ++ codes " sends no message " ++ decimal n ++ more) ≡ line_feeds (begun ++ decimal n) = before_none (begun ++ decimal n) more none in
        let number : line_feeds (begun ++ decimal n) ≡ line_feeds begun = before_none begun (decimal n) (decimal_has_none n) in
        let first : line_feeds begun ≡ line_feeds (codes "error: the session " ++ session) = before_none (codes "error: the session " ++ session) (codes " sends no message ") refl in
        let name : line_feeds (codes "error: the session " ++ session) ≡ line_feeds session = refl in
        omega (arith, whole, number, first, name)

    go : (m : Option ℕ) → line_feeds (notice_text (no_message session n m)) ≡ line_feeds session + 0
    go None = said [] refl
    go (Some zero) = said (codes ": it sends none") refl
    go (Some (suc m)) = said (codes ": its messages are 1 to " ++ decimal (suc m)) (decimal_has_none (suc m))

pub notice_is_a_line : (n : Notice) → line_feeds (notice_text n) ≡ line_feeds (words_of_notice n) + line_feeds_of_notice n
notice_is_a_line (given_line line) = omega arith
notice_is_a_line (of_fault f) = fault_is_a_line f
notice_is_a_line (of_fault_because f reason) = reason_is_a_line f reason
notice_is_a_line (no_file [] reason) = refl
notice_is_a_line (no_file (b ∷ bs) reason) = file_is_a_line (b ∷ bs) reason
notice_is_a_line (both_from_input one other) = inputs_are_a_line one other
notice_is_a_line (no_value text option reason) = value_is_three_lines text option reason
notice_is_a_line (of_test_text t f) = test_is_a_line t f
notice_is_a_line (no_session name None) = before_none name [] refl ∙ omega arith
notice_is_a_line (no_session name (Some sessions)) = sessions_are_a_line name sessions
notice_is_a_line (no_move n moves) = moves_of_run_are_a_line n moves
notice_is_a_line (no_message session n messages) = messages_are_a_line session n messages
notice_is_a_line no_node_move = refl
notice_is_a_line no_chosen_move = refl
notice_is_a_line no_forms = refl
notice_is_a_line (pick_of_nobody n pick) = pick_is_a_line n pick
notice_is_a_line (node_moves n m c) = moves_are_a_line n m c
notice_is_a_line (of_difference x) = difference_is_a_line x
notice_is_a_line (lacks_a_line line) = omega arith
notice_is_a_line (has_a_line line) = omega arith
notice_is_a_line (lacks_a_listing name) = omega arith
