-- Rows: what is said, and its line, as the manual has them.
use Rattle.std.specs.Prelude.{◌≡◌, ℕ, [], ◌∷◌, Some, None, codes, refl}
use Rattle.std.specs.Fmt.{digits}
use Prim.Native.String.{String}
use Rattle.def_term.specs.Text.{is_written_bare}
use Rattle.def_text.specs.Places.{place_at}
use Rattle.def_notice.specs.FaultTexts.{of_reading, of_writing, of_memory, of_workers, of_bytes, of_listings, of_expectation, broken_pipe, refused_memory}
use Rattle.def_notice.specs.MovesTexts.{MovesReason, no_mover, no_number, no_count, no_start, many_starts, too_many_bytes, no_directive_at, bad_moves_text}
use Rattle.def_notice.specs.DifferenceTexts.{expected_output, found_output, one_line, two_lines, lines_without_text, last_line_feed, no_line, end_of_output, more_lines, more_differences, line_with_return, return_difference, of_both, of_expected, of_found, aligned_output, aligned_ranges, aligned_line}
use Rattle.def_notice.specs.NoticeTexts.{by_same_picks, by_journal, the_list, the_caller, the_specification, is_no_list, is_no_function, is_too_long, is_too_deep, fault_in_words, the_script, the_picks, the_moves, the_output, the_listing, Notice, of_fault, of_fault_because, no_file, both_from_input, no_value, of_test_text, no_session, no_message, no_move, no_node_move, no_chosen_move, no_forms, pick_of_nobody, node_moves, of_difference, lacks_a_line, has_a_line, lacks_a_listing, notice_text, notice_of_fault}

-- this is the line
abbrev Says : Notice → String → Type 0
Says n s = notice_text n ≡ codes s

-- ---- faults

read_fails : Says (of_fault_because of_reading (codes "Is a directory (os error 21)")) "fault 18 read: Is a directory (os error 21)"
read_fails = refl

write_fails : Says (of_fault_because (of_writing 0) (codes "No space left on device (os error 28)")) "fault 19 write after 0 bytes: No space left on device (os error 28)"
unfolding digits
write_fails = refl

memory_refused : Says (of_fault of_memory) "fault memory"
memory_refused = refl

workers_fail : Says (of_fault of_workers) "fault workers"
workers_fail = refl

long_output : Says (of_fault (of_bytes 113 100)) "fault output: the output has 113 bytes, and --max-output is 100"
unfolding digits
long_output = refl

long_listings : Says (of_fault (of_listings 10)) "fault output: the output has more than 10 bytes, and --max-output is 10"
unfolding digits
long_listings = refl

long_expectation : Says (of_fault (of_expectation 10)) "fault expect: the file has more than 10 bytes, and --max-output is 10"
unfolding digits
long_expectation = refl

pipe_broken : notice_of_fault (of_writing 0) (Some broken_pipe) ≡ None
pipe_broken = refl

reader_without_memory : notice_of_fault of_reading (Some refused_memory) ≡ Some (of_fault of_memory)
reader_without_memory = refl

-- ---- the command line

absent_file : Says (no_file (codes "a\\x1bb") (codes "No such file or directory (os error 2)")) "error: a\\x1bb: No such file or directory (os error 2)"
absent_file = refl

file_without_name : Says (no_file [] (codes "No such file or directory (os error 2)")) "error: the name of a file is empty"
file_without_name = refl

picks_and_script : Says (both_from_input the_script the_picks) "error: the script and the picks can't both be standard input"
picks_and_script = refl

moves_and_script : Says (both_from_input the_script the_moves) "error: the script and the moves can't both be standard input"
moves_and_script = refl

output_and_picks : Says (both_from_input the_picks the_output) "error: the picks and the expected output can't both be standard input"
output_and_picks = refl

listing_and_script : Says (both_from_input the_script the_listing) "error: the script and the expected listing can't both be standard input"
listing_and_script = refl

no_pid : Says (no_value (codes "\\x7f") (codes "--me <N>") (codes "a number or a pid <0.N.0> is expected")) "error: invalid value '\\x7f' for '--me <N>': a number or a pid <0.N.0> is expected\n\nFor more information, try '--help'."
no_pid = refl

-- ---- tests of match specifications

a_list_of_none : Says (of_test_text the_list is_no_list) "list: no list"
a_list_of_none = refl

a_caller_of_none : Says (of_test_text the_caller is_no_function) "caller: no {Module,Function,Arity}"
a_caller_of_none = refl

a_long_specification : Says (of_test_text the_specification is_too_long) "specification: the text is too long"
a_long_specification = refl

a_deep_list : Says (of_test_text the_list (is_too_deep 32)) "list: too deep at 32"
unfolding digits
a_deep_list = refl

no_match_specification : Says (of_test_text the_specification (fault_in_words (codes "clause 1: body 1: a is bound"))) "specification: clause 1: body 1: a is bound"
no_match_specification = refl

-- ---- accounts and runs

another_session : Says (no_session (codes "s9") None) "error: the script creates no session s9"
another_session = refl

no_session_at_all : Says (no_session (codes "s9") (Some [])) "error: the script creates no session s9: it creates none"
no_session_at_all = refl

session_of_two : Says (no_session (codes "zz") (Some (codes "s, t"))) "error: the script creates no session zz: it creates s, t"
session_of_two = refl

move_too_far : Says (no_move 31 None) "error: the run has no move 31"
unfolding digits
move_too_far = refl

move_past_the_last : Says (no_move 99 (Some 4)) "error: the run has no move 99: its moves are 1 to 4"
unfolding digits
move_past_the_last = refl

move_of_none : Says (no_move 1 (Some 0)) "error: the run has no move 1: it has none"
unfolding digits
move_of_none = refl

message_too_far : Says (no_message (codes "s") 9 None) "error: the session s sends no message 9"
unfolding digits
message_too_far = refl

message_past_the_last : Says (no_message (codes "s") 9 (Some 3)) "error: the session s sends no message 9: its messages are 1 to 3"
unfolding digits
message_past_the_last = refl

message_of_none : Says (no_message (codes "s") 1 (Some 0)) "error: the session s sends no message 1: it sends none"
unfolding digits
message_of_none = refl

nothing_otherwise : Says no_node_move "note: a running node is known to do nothing otherwise there"
nothing_otherwise = refl

nothing_chosen : Says no_chosen_move "error: the pattern selects no move of the run"
nothing_chosen = refl

empty_script : Says no_forms "note: the script has no forms"
empty_script = refl

pick_of_no_process : Says (pick_of_nobody 2 99) "note: pick 2 is 99, and no process has that pid: pids are 100 to 163, and 0 takes the next command"
unfolding digits
pick_of_no_process = refl

one_of_five : Says (node_moves 1 5 by_same_picks) "note: a running node differs at 1 of 5 moves; explain --node shows where"
unfolding digits
one_of_five = refl

one_of_six : Says (node_moves 1 6 by_journal) "note: a running node differs at 1 of 6 moves; explain --node, by the picks of the journal, shows where"
unfolding digits
one_of_six = refl

-- ---- outputs that differ

changed_line : Says (of_difference (two_lines 4 (codes "{session,s2}") (codes "{session,s1}"))) "expected line 4: {session,s2}\nfound line 4: {session,s1}"
unfolding digits
changed_line = refl

line_without_text : Says (of_difference (lines_without_text 3)) "line 3 differs"
unfolding digits
line_without_text = refl

one_line_more : Says (of_difference (one_line expected_output 8 (Some (codes "more")))) "expected line 8: more"
unfolding digits
one_line_more = refl

a_byte_more : Says (of_difference (one_line found_output 8 None)) "found line 8, which isn't printable"
unfolding digits
a_byte_more = refl

line_of_windows : Says (of_difference (line_with_return 1)) "expected line 1 ends in a carriage return, which no line of an output has"
unfolding digits
line_of_windows = refl

return_expected : return_difference 2 (codes "a\r") (codes "a") ≡ Some (line_with_return 2)
return_expected = refl

return_in_both : return_difference 2 (codes "a\r") (codes "\r") ≡ None
return_in_both = refl

no_return : return_difference 2 [] (codes "a") ≡ None
no_return = refl

no_feed : Says (of_difference (last_line_feed 7)) "line 7 differs in the line feed at its end"
unfolding digits
no_feed = refl

a_line_less : Says (of_difference (no_line found_output)) "found no line here"
a_line_less = refl

the_end : Says (of_difference (end_of_output expected_output)) "expected the end of the output"
the_end = refl

many_lines : Says (of_difference (more_lines found_output)) "found more lines"
many_lines = refl

many_differences : Says (of_difference more_differences) "more lines may differ"
many_differences = refl

absent_line : Says (lacks_a_line (codes "h\\x1bi")) "error: the output has no line h\\x1bi"
absent_line = refl

unwanted_line : Says (has_a_line (codes "== replies")) "error: the output has the line == replies"
unwanted_line = refl

-- ---- texts of moves

-- the text is refused at this offset for the reason
abbrev Refuses : String → ℕ → MovesReason → String → Type 0
Refuses text at r s = bad_moves_text (no_directive_at (place_at (codes text) at) r) ≡ codes s

long_moves : bad_moves_text too_many_bytes ≡ codes "moves: longer than 1048576 bytes"
long_moves = refl

another_name : Refuses "0! gox" 3 (no_start (codes "gox") (codes "go" ∷ codes "rest" ∷ [])) "moves:1:4: no initial process starts in a function gox; go is <0.100.0>, rest is <0.101.0>"
unfolding digits is_written_bare
another_name = refl

a_pid : Refuses "<0.100.0>!" 0 (no_start (codes "<0.100.0>") (codes "go" ∷ [])) "moves:1:1: no initial process starts in a function <0.100.0>: a process is written by the number in its pid, as 100 for <0.100.0>; go is <0.100.0>"
unfolding digits is_written_bare
a_pid = refl

a_name_in_quotes : Refuses "'go'!" 0 (no_start (codes "'go'") (codes "go" ∷ [])) "moves:1:1: no initial process starts in a function 'go': a name has quotes only where its atom needs them; go is <0.100.0>"
unfolding digits is_written_bare
a_name_in_quotes = refl

a_name_with_a_module : Refuses "m:go!" 0 (no_start (codes "m:go") (codes "go" ∷ [])) "moves:1:1: no initial process starts in a function m:go: a function is written by its name alone; go is <0.100.0>"
unfolding digits is_written_bare
a_name_with_a_module = refl

a_name_with_an_arity : Refuses "go/0" 0 (no_start (codes "go/0") (codes "go" ∷ [])) "moves:1:1: no initial process starts in a function go/0: a function is written by its name alone; go is <0.100.0>"
unfolding digits is_written_bare
a_name_with_an_arity = refl

names_with_a_comma : Refuses "go,go!" 0 (no_start (codes "go,go") (codes "go" ∷ [])) "moves:1:1: no initial process starts in a function go,go: moves have blanks between them, and no commas; go is <0.100.0>"
unfolding digits is_written_bare
names_with_a_comma = refl

a_name_of_two : Refuses "go" 0 (many_starts (codes "go") (100 ∷ 102 ∷ [])) "moves:1:1: several initial processes start in a function go: <0.100.0>, <0.102.0>"
unfolding digits
a_name_of_two = refl

too_often : Refuses "go go*" 3 (no_count (codes "go") (codes "*")) "moves:1:4: after go* a number up to 65535 without a leading zero is expected, found nothing"
unfolding digits
too_often = refl

too_many_times : Refuses "0*70000" 0 (no_count (codes "0") (codes "*70000")) "moves:1:1: after 0* a number up to 65535 without a leading zero is expected, found '70000'"
unfolding digits
too_many_times = refl

comma_after_idle : Refuses "0!,go!" 0 (no_count (codes "0") (codes "!,go!")) "moves:1:1: after 0! a blank is expected, found ',go!'"
unfolding digits
comma_after_idle = refl

no_number_there : Refuses "007" 0 (no_number (codes "007")) "moves:1:1: a number below 4294967296 without a leading zero is expected, found '007'"
unfolding digits
no_number_there = refl

all_and_more : Refuses "0 !" 2 (no_mover (codes "!")) "moves:1:3: a number, a name or `*` alone is expected, found '!'"
unfolding digits
all_and_more = refl

absent_listing : Says (lacks_a_listing (codes "s1")) "error: the output has no listing of a session s1"
absent_listing = refl

-- ---- an alignment, as `diff -u` has it

sign_of_expected : Says (of_difference (aligned_output expected_output)) "--- expected"
sign_of_expected = refl

sign_of_found : Says (of_difference (aligned_output found_output)) "+++ found"
sign_of_found = refl

ranges_of_lines : Says (of_difference (aligned_ranges (record { first = 2; count = 3 }) (record { first = 2; count = 14 }))) "@@ -2,3 +2,14 @@"
unfolding digits
ranges_of_lines = refl

line_of_both : Says (of_difference (aligned_line of_both (Some (codes "== replies")))) " == replies"
line_of_both = refl

line_of_expected : Says (of_difference (aligned_line of_expected (Some (codes "1")))) "-1"
line_of_expected = refl

aligned_without_text : Says (of_difference (aligned_line of_found None)) "+(a line that isn't printable)"
aligned_without_text = refl
