-- Rows: small terms that are no forms, small forms that break a rule, texts of picks and refused tokens, and what a line says of each.
use Rattle.std.specs.Prelude.{◌≡◌, ℕ, pos, true, false, List, [], ◌∷◌, replicate, Option, Some, None, codes, refl}
use Rattle.std.specs.Fmt.{digits}
use Prim.Native.String.{String}
use Rattle.def_term.specs.Tree.{Tree, int, tuple, list, of_elements, none}
use Rattle.def_term.specs.Names.{word}
use Rattle.def_term.specs.Text.{is_written_bare}
use Rattle.def_script.specs.Program.{Step, receive, call_remote, call_local, give_back, Form, declares, starts, controls, create, destroy}
use Rattle.def_script.specs.Shapes.{function_from, entry_from}
use Rattle.def_script.specs.Rules.{Rule, duplicate, undeclared, not_exported, unbound, tracer_taken, wrong_arity, past_limit}
use Rattle.def_wording.specs.PickTexts.{picks_detail}
use Rattle.def_wording.specs.RuleTexts.{rule_reason_in, rule_reasons_text}
use Rattle.def_wording.specs.ShapeTexts.{shape_detail}
use Rattle.def_wording.specs.SyntaxTexts.{TextThing, an_end, a_variable_word, a_reserved_word, a_bare_atom, a_quoted_atom, an_open_quote, a_number, a_string, an_open_string, a_float, a_stop, a_dot, a_pid, a_binary, an_angle, a_map, a_hash, a_literal, a_bar, an_opener, a_closer, a_comma, a_mark, a_byte, NextPart, a_form, a_first, an_element, an_after, an_ending, OpenBracket, ReadSoFar, TextKind, of_script, of_term, misplaced_text, deep_text, large_text}

-- ---- terms

abbrev number : ℕ → Tree
number n = int (pos n)

abbrev braces : List Tree → Tree
braces ts = tuple (of_elements ts)

abbrev brackets : List Tree → Tree
brackets ts = list (of_elements ts)

-- the term is no form, and this is said of it
abbrev Says : Tree → String → Type 0
Says t s = shape_detail t ≡ codes s

-- {function,m,f,exported,[],[Step]}
abbrev with_step : Tree → Tree
with_step t = braces (word "function" ∷ word "m" ∷ word "f" ∷ word "exported" ∷ brackets [] ∷ brackets (t ∷ []) ∷ [])

-- {control,[Command]}
abbrev with_command : Tree → Tree
with_command t = braces (word "control" ∷ brackets (t ∷ []) ∷ [])

-- a tuple of a tag and these terms
abbrev tagged : String → List Tree → Tree
tagged s ts = braces (word s ∷ ts)

-- ---- forms without a shape

no_form_at_all : Says (word "a") ": it must be {function,M,F,Vis,Params,Steps}, {process,M,F,Args} or {control,[Command,..]}, found a"
unfolding is_written_bare digits
no_form_at_all = refl

short_function : Says (tagged "function" (word "m" ∷ word "f" ∷ word "exported" ∷ (brackets []) ∷ [])) ": {function,M,F,Vis,Params,Steps} has 6 elements, found 5"
unfolding is_written_bare digits
short_function = refl

no_module : Says (tagged "function" (word "M" ∷ word "f" ∷ word "exported" ∷ (brackets []) ∷ (brackets []) ∷ [])) ": M must be a name, an atom that begins with no capital letter and is not '_', found 'M'"
unfolding is_written_bare digits
no_module = refl

no_function : Says (tagged "function" (word "m" ∷ word "_" ∷ word "exported" ∷ (brackets []) ∷ (brackets []) ∷ [])) ": F must be a name, an atom that begins with no capital letter and is not '_', found '_'"
unfolding is_written_bare digits
no_function = refl

no_visibility : Says (tagged "function" (word "m" ∷ word "f" ∷ word "public" ∷ (brackets []) ∷ (brackets []) ∷ [])) ": Vis must be exported or internal, found public"
unfolding is_written_bare digits
no_visibility = refl

no_params : Says (tagged "function" (word "m" ∷ word "f" ∷ word "exported" ∷ word "x" ∷ (brackets []) ∷ [])) ": Params must be a list, found x"
unfolding is_written_bare digits
no_params = refl

many_params : Says (tagged "function" (word "m" ∷ word "f" ∷ word "exported" ∷ brackets (replicate 256 (word "A")) ∷ (brackets []) ∷ [])) ": a function has at most 255 parameters, found 256"
unfolding is_written_bare digits
many_params = refl

no_variable : Says (tagged "function" (word "m" ∷ word "f" ∷ word "exported" ∷ (brackets (word "X" ∷ word "y" ∷ [])) ∷ (brackets []) ∷ [])) ": each of Params must be a variable other than 'Self', in quotes, found y"
unfolding is_written_bare digits
no_variable = refl

twice_a_variable : Says (tagged "function" (word "m" ∷ word "f" ∷ word "exported" ∷ (brackets (word "X" ∷ word "Y" ∷ word "X" ∷ [])) ∷ (brackets []) ∷ [])) ": Params must be distinct, found 'X'"
unfolding is_written_bare digits
twice_a_variable = refl

no_steps : Says (tagged "function" (word "m" ∷ word "f" ∷ word "exported" ∷ (brackets []) ∷ word "x" ∷ [])) ": Steps must be a list, found x"
unfolding is_written_bare digits
no_steps = refl

long_process : Says (tagged "process" (word "s" ∷ word "all" ∷ word "true" ∷ list none ∷ [])) ": {process,M,F,Args} has 4 elements, and the command {process,S,Procs,How,Flags} stands in {control,[Command,..]}, found 5"
unfolding is_written_bare digits
long_process = refl

short_process : Says (tagged "process" (word "m" ∷ word "f" ∷ [])) ": {process,M,F,Args} has 4 elements, found 3"
unfolding is_written_bare digits
short_process = refl

no_process_module : Says (tagged "process" (number 1 ∷ word "f" ∷ (brackets []) ∷ [])) ": M must be a name, an atom that begins with no capital letter and is not '_', found 1"
unfolding is_written_bare digits
no_process_module = refl

no_args : Says (tagged "process" (word "m" ∷ word "f" ∷ word "a" ∷ [])) ": Args must be a list, found a"
unfolding is_written_bare digits
no_args = refl

many_args : Says (tagged "process" (word "m" ∷ word "f" ∷ brackets (replicate 256 (number 0)) ∷ [])) ": a list of arguments has at most 255 elements, found 256"
unfolding is_written_bare digits
many_args = refl

short_control : Says (tagged "control" []) ": {control,Commands} has 2 elements, found 1"
unfolding is_written_bare digits
short_control = refl

no_commands : Says (tagged "control" (word "x" ∷ [])) ": Commands must be a list, found x"
unfolding is_written_bare digits
no_commands = refl

-- ---- steps without a shape

short_send : Says (with_step (tagged "send" (word "a" ∷ []))) ": step 1: {send,To,Msg} has 3 elements, found 2"
unfolding is_written_bare digits
short_send = refl

short_receive : Says (with_step (tagged "receive" [])) ": step 1: {'receive',V} has 2 elements, found 1"
unfolding is_written_bare digits
short_receive = refl

short_call : Says (with_step (tagged "call" (word "_" ∷ word "m" ∷ []))) ": step 1: {call,V,{M,F},Args} or {call,V,F,Args} has 4 elements, found 3"
unfolding is_written_bare digits
short_call = refl

short_catch : Says (with_step (tagged "catch" (word "_" ∷ (tagged "m" (word "f" ∷ [])) ∷ []))) ": step 1: {'catch',V,{M,F},Args} has 4 elements, found 3"
unfolding is_written_bare digits
short_catch = refl

short_spawn : Says (with_step (tagged "spawn" (word "_" ∷ []))) ": step 1: {spawn,V,{M,F},Args} has 4 elements, found 2"
unfolding is_written_bare digits
short_spawn = refl

short_link : Says (with_step (tagged "link" [])) ": step 1: {link,P} has 2 elements, found 1"
unfolding is_written_bare digits
short_link = refl

long_unlink : Says (with_step (tagged "unlink" (number 1 ∷ number 2 ∷ []))) ": step 1: {unlink,P} has 2 elements, found 3"
unfolding is_written_bare digits
long_unlink = refl

short_return : Says (with_step (tagged "return" [])) ": step 1: {return,T} has 2 elements, found 1"
unfolding is_written_bare digits
short_return = refl

long_error : Says (with_step (tagged "error" (number 1 ∷ number 2 ∷ []))) ": step 1: {error,T} has 2 elements, found 3"
unfolding is_written_bare digits
long_error = refl

long_throw : Says (with_step (tagged "throw" (number 1 ∷ number 2 ∷ []))) ": step 1: {throw,T} has 2 elements, found 3"
unfolding is_written_bare digits
long_throw = refl

short_exit : Says (with_step (tagged "exit" [])) ": step 1: {exit,T} has 2 elements, found 1"
unfolding is_written_bare digits
short_exit = refl

self_target : Says (with_step (tagged "receive" (word "Self" ∷ []))) ": step 1: V must be '_' or a variable other than 'Self', in quotes, found 'Self'"
unfolding is_written_bare digits
self_target = refl

no_local_callee : Says (with_step (tagged "call" (word "_" ∷ number 1 ∷ (brackets []) ∷ []))) ": step 1: F must be a name, an atom that begins with no capital letter and is not '_', found 1"
unfolding is_written_bare digits
no_local_callee = refl

no_remote_callee : Says (with_step (tagged "spawn" (word "_" ∷ (braces (word "m" ∷ [])) ∷ (brackets []) ∷ []))) ": step 1: {M,F} must be two names, a module and a function without its arity, found {m}"
unfolding is_written_bare digits
no_remote_callee = refl

no_arguments : Says (with_step (tagged "call" (word "_" ∷ word "f" ∷ word "x" ∷ []))) ": step 1: Args must be a list, found x"
unfolding is_written_bare digits
no_arguments = refl

no_step_at_all : Says (with_step (tagged "jump" (number 1 ∷ []))) ": step 1: it must be a tuple of send, 'receive', call, 'catch', spawn, link, unlink, return, error, throw or exit, found {jump,1}"
unfolding is_written_bare digits
no_step_at_all = refl

linked_spawn : Says (with_step (tagged "spawn_link" (number 1 ∷ []))) ": step 1: spawn_link isn't modelled: write spawn, and then link, found {spawn_link,1}"
unfolding is_written_bare digits
linked_spawn = refl

monitor_step : Says (with_step (tagged "monitor" (number 1 ∷ []))) ": step 1: monitor isn't modelled: link is, found {monitor,1}"
unfolding is_written_bare digits
monitor_step = refl

flag_of_a_process : Says (with_step (tagged "process_flag" (number 1 ∷ []))) ": step 1: process_flag isn't modelled: no process traps exits, found {process_flag,1}"
unfolding is_written_bare digits
flag_of_a_process = refl

case_step : Says (with_step (tagged "case" (number 1 ∷ []))) ": step 1: 'case' isn't modelled: a function has no branches, found {'case',1}"
unfolding is_written_bare digits
case_step = refl

if_step : Says (with_step (tagged "if" (number 1 ∷ []))) ": step 1: 'if' isn't modelled: a function has no branches, found {'if',1}"
unfolding is_written_bare digits
if_step = refl

-- ---- commands without a shape; of a long term 60 bytes are shown

short_create : Says (with_command (tagged "session_create" (word "a" ∷ word "t" ∷ []))) ": command 1: {session_create,S,T,[]} has 4 elements, found 3"
unfolding is_written_bare digits
short_create = refl

short_destroy : Says (with_command (tagged "session_destroy" [])) ": command 1: {session_destroy,S} has 2 elements, found 1"
unfolding is_written_bare digits
short_destroy = refl

short_processes : Says (with_command (tagged "process" (word "a" ∷ []))) ": command 1: {process,S,Procs,How,Flags} has 5 elements, found 2"
unfolding is_written_bare digits
short_processes = refl

short_functions : Says (with_command (tagged "function" (word "a" ∷ []))) ": command 1: {function,S,MFA,Spec,Opts} has 5 elements, found 2"
unfolding is_written_bare digits
short_functions = refl

short_set_send : Says (with_command (tagged "send" (word "a" ∷ []))) ": command 1: {send,S,Spec,[]} has 4 elements, found 2"
unfolding is_written_bare digits
short_set_send = refl

short_set_receive : Says (with_command (tagged "recv" (word "a" ∷ []))) ": command 1: {recv,S,Spec,[]} has 4 elements, found 2"
unfolding is_written_bare digits
short_set_receive = refl

no_session : Says (with_command (tagged "session_create" (word "A" ∷ word "t" ∷ (brackets []) ∷ []))) ": command 1: S must be a name, an atom that begins with no capital letter and is not '_', found 'A'"
unfolding is_written_bare digits
no_session = refl

no_options : Says (with_command (tagged "send" (word "a" ∷ (brackets []) ∷ (brackets (word "x" ∷ [])) ∷ []))) ": command 1: the last element must be [], found [x]"
unfolding is_written_bare digits
no_options = refl

no_tracer : Says (with_command (tagged "session_create" (word "a" ∷ word "T" ∷ (brackets []) ∷ []))) ": command 1: T must be a name, an atom that begins with no capital letter and is not '_', found 'T'"
unfolding is_written_bare digits
no_tracer = refl

no_command_at_all : Says (with_command (word "x")) ": command 1: it must be a tuple of session_create, session_destroy, process, function, send or recv, found x"
unfolding is_written_bare digits
no_command_at_all = refl

receive_command : Says (with_command (tagged "receive" (word "s" ∷ []))) ": command 1: 'receive' is no command: recv is meant, found {'receive',s}"
unfolding is_written_bare digits
receive_command = refl

trace_command : Says (with_command (tagged "trace" (word "s" ∷ []))) ": command 1: trace is no command: process is meant, found {trace,s}"
unfolding is_written_bare digits
trace_command = refl

pattern_command : Says (with_command (tagged "trace_pattern" (word "s" ∷ []))) ": command 1: trace_pattern is no command: function is meant, found {trace_pattern,s}"
unfolding is_written_bare digits
pattern_command = refl

info_command : Says (with_command (tagged "info" (word "s" ∷ []))) ": command 1: info of OTP 27 isn't modelled, found {info,s}"
unfolding is_written_bare digits
info_command = refl

delivered_command : Says (with_command (tagged "delivered" (word "s" ∷ []))) ": command 1: delivered of OTP 27 isn't modelled, found {delivered,s}"
unfolding is_written_bare digits
delivered_command = refl

session_info_command : Says (with_command (tagged "session_info" (word "s" ∷ []))) ": command 1: session_info of OTP 27 isn't modelled, found {session_info,s}"
unfolding is_written_bare digits
session_info_command = refl

a_long_command : Says (with_command (brackets (replicate 59 (number 97)))) ": command 1: it must be a tuple of session_create, session_destroy, process, function, send or recv, found [97,97,97,97,97,97,97,97,97,97,97,97,97,97,97,97,97,97,97,97.."
unfolding is_written_bare digits
a_long_command = refl

-- ---- forms that break a rule

-- m:F/0 with these steps
abbrev function_of : String → List Step → Form
function_of f ss = declares (function_from (codes "m") (codes f) true [] ss)

-- m:f/0 as internal
abbrev internal_function : Form
internal_function = declares (function_from (codes "m") (codes "f") false [] [])

-- m:f/1 with the parameter A
abbrev with_parameter : Form
with_parameter = declares (function_from (codes "m") (codes "f") true (codes "A" ∷ []) [])

-- a process of m:f with these arguments
abbrev process_of : List Tree → Form
process_of ts = starts (entry_from (codes "m") (codes "f") ts)

abbrev one_step : Step
one_step = give_back (number 1)

-- the form with this number breaks the rule, and this is said of it
abbrev Breaks : List Form → ℕ → Rule → String → Type 0
Breaks fs n r s = rule_reasons_text (rule_reason_in fs n r) ≡ codes s

declared_again : Breaks (function_of "f" [] ∷ internal_function ∷ []) 2 duplicate ": function m:f/0, in form 1 too"
unfolding is_written_bare digits
declared_again = refl

created_again : Breaks (controls (create (codes "a") (codes "t") ∷ []) ∷ controls (create (codes "a") (codes "u") ∷ []) ∷ []) 2 duplicate ": session a"
unfolding is_written_bare digits
created_again = refl

undeclared_in_step : Breaks (function_of "f" (one_step ∷ call_remote None (codes "m") (codes "g") (number 1 ∷ number 2 ∷ []) ∷ []) ∷ []) 1 undeclared ": function m:g/2, in step 2; is m:f/0 meant?"
unfolding is_written_bare digits
undeclared_in_step = refl

undeclared_start : Breaks (process_of [] ∷ []) 1 undeclared ": function m:f/0"
unfolding is_written_bare digits
undeclared_start = refl

near_start : Breaks (process_of [] ∷ function_of "go" [] ∷ function_of "fo" [] ∷ []) 1 undeclared ": function m:f/0; is m:fo/0 meant?"
unfolding is_written_bare digits
near_start = refl

start_in_another_module : Breaks (process_of [] ∷ function_of "fo" [] ∷ declares (function_from (codes "n") (codes "f") true (codes "X" ∷ []) []) ∷ []) 1 undeclared ": function m:f/0; is n:f/1 meant?"
unfolding is_written_bare digits
start_in_another_module = refl

uncreated_session : Breaks (controls (create (codes "a") (codes "t") ∷ destroy (codes "b") ∷ []) ∷ []) 1 undeclared ": session b, which no earlier command creates"
unfolding is_written_bare digits
uncreated_session = refl

internal_start : Breaks (internal_function ∷ process_of [] ∷ []) 2 not_exported ": function m:f/0 is internal"
unfolding is_written_bare digits
internal_start = refl

internal_in_step : Breaks (internal_function ∷ function_of "g" (call_local None (codes "f") [] ∷ call_remote None (codes "m") (codes "f") [] ∷ []) ∷ []) 2 not_exported ": function m:f/0 is internal, in step 2"
unfolding is_written_bare digits
internal_in_step = refl

free_in_second_step : Breaks (function_of "f" (receive (Some (codes "X")) ∷ give_back (braces (word "X" ∷ word "Y" ∷ [])) ∷ []) ∷ []) 1 unbound ": 'Y' in step 2 of function m:f/0"
unfolding is_written_bare digits
free_in_second_step = refl

free_in_arguments : Breaks (with_parameter ∷ process_of (word "X" ∷ []) ∷ []) 2 unbound ": 'X' in the arguments of a process, where no variable is"
unfolding is_written_bare digits
free_in_arguments = refl

tracer_of_another : Breaks (controls (create (codes "a") (codes "t") ∷ create (codes "b") (codes "t") ∷ []) ∷ []) 1 tracer_taken ": t is the tracer of session a"
unfolding is_written_bare digits
tracer_of_another = refl

two_arities : Breaks (function_of "f" [] ∷ with_parameter ∷ process_of (number 1 ∷ number 2 ∷ []) ∷ []) 3 wrong_arity ": function m:f/2 is declared with the arity 0 or 1 alone"
unfolding is_written_bare digits
two_arities = refl

another_arity : Breaks (with_parameter ∷ function_of "g" (call_local None (codes "f") [] ∷ []) ∷ []) 2 wrong_arity ": function m:f/0 is declared with the arity 1 alone, in step 1"
unfolding is_written_bare digits
another_arity = refl

late_step : Breaks (function_of "f" (replicate 65 one_step) ∷ []) 1 past_limit ": 65 steps in function m:f/0"
unfolding is_written_bare digits
late_step = refl

late_function : rule_reasons_text (rule_reason_in (replicate 65 (function_of "f" [])) 65 past_limit) ≡ codes ": 65 functions up to here"
unfolding is_written_bare digits
late_function = refl

late_process : rule_reasons_text (rule_reason_in (replicate 17 (process_of [])) 17 past_limit) ≡ codes ": 17 processes up to here"
unfolding is_written_bare digits
late_process = refl

late_command : Breaks (controls (replicate 257 (destroy (codes "a"))) ∷ []) 1 past_limit ": 257 commands up to here"
unfolding is_written_bare digits
late_command = refl

late_session : Breaks (controls (replicate 129 (create (codes "a") (codes "t"))) ∷ []) 1 past_limit ": 129 sessions up to here"
unfolding is_written_bare digits
late_session = refl

-- ---- texts of picks

zero_first : picks_detail (codes "0 100 07 1") ≡ codes ": pick 3, '07', has a leading zero"
unfolding is_written_bare digits
zero_first = refl

two_spaces : picks_detail (codes "0  1") ≡ codes ": pick 2, '', is empty: one blank stands between each two picks, and none at an end"
unfolding is_written_bare digits
two_spaces = refl

carriage_return_after : picks_detail (codes "0 100\r") ≡ codes ": pick 2, '100\r', has a carriage return: all picks are in one line"
unfolding is_written_bare digits
carriage_return_after = refl

line_feed_between : picks_detail (codes "0\n100 7") ≡ codes ": pick 1, '0\n100', has a line feed: all picks are in one line"
unfolding is_written_bare digits
line_feed_between = refl

picks_of_moves : picks_detail (codes "0! go!") ≡ codes ": pick 1, '0!', is no decimal number: a text of moves is given by --moves"
unfolding is_written_bare digits
picks_of_moves = refl

picks_of_repeated_moves : picks_detail (codes "0*3") ≡ codes ": pick 1, '0*3', is no decimal number: a text of moves is given by --moves"
unfolding is_written_bare digits
picks_of_repeated_moves = refl

no_digit : picks_detail (codes "0 x") ≡ codes ": pick 2, 'x', is no decimal number"
unfolding is_written_bare digits
no_digit = refl

too_many_bits : picks_detail (codes "4294967296") ≡ codes ": pick 1, '4294967296', is greater than 4294967295"
unfolding is_written_bare digits
too_many_bits = refl

good_picks : picks_detail (codes "0 100 4294967295") ≡ []
unfolding is_written_bare digits
good_picks = refl

-- ---- refused tokens

-- a text of one line, in which the innermost bracket is the first byte: of a tuple
abbrev open_tuple : Option OpenBracket
open_tuple = Some (record { is_tuple = true; at = 0; commas = 254 })

-- of a list
abbrev open_list : Option OpenBracket
open_list = Some (record { is_tuple = false; at = 0; commas = 4095 })

abbrev reads : NextPart → Option OpenBracket → Option ReadSoFar
reads n b = Some (record { next = n; innermost = b })

-- this is said of what stands there
abbrev Misplaced : Option ReadSoFar → TextThing → String → TextKind → String → Type 0
Misplaced s t found k said = misplaced_text [] s (record { thing = t; bytes = codes found }) k ≡ codes said

no_form_here : Misplaced (reads a_form None) a_closer "}" of_script ": a form expected, found '}': nothing is open"
unfolding is_written_bare digits
no_form_here = refl

no_term_here : Misplaced (reads a_form None) a_closer "}" of_term ": a term expected, found '}': nothing is open"
unfolding is_written_bare digits
no_term_here = refl

another_atom : Misplaced (reads an_after open_tuple) a_bare_atom "b" of_script ": ',' or '}' expected, found the atom b"
unfolding is_written_bare digits
another_atom = refl

another_number : Misplaced (reads an_after open_list) a_number "7" of_script ": ',' or ']' expected, found the number 7"
unfolding is_written_bare digits
another_number = refl

another_string : Misplaced (reads an_after open_tuple) a_string "\"b\"" of_script ": ',' or '}' expected, found the string \"b\": strings are not joined"
unfolding is_written_bare digits
another_string = refl

first_comma : Misplaced (reads a_first open_tuple) a_comma "," of_script ": a term or '}' expected, found ','"
unfolding is_written_bare digits
first_comma = refl

quote_left_open : Misplaced (reads a_first open_tuple) an_open_quote "" of_script ": a term or '}' expected, found a quoted atom that is not closed: it has characters 32 to 126, and \\' and \\\\ for ' and \\"
unfolding is_written_bare digits
quote_left_open = refl

byte_in_quotes : misplaced_text [] (reads a_first open_tuple) (record { thing = an_open_quote; bytes = 195 ∷ [] }) of_script ≡ codes ": a term or '}' expected, found a quoted atom with the byte 195: it has characters 32 to 126, and \\' and \\\\ for ' and \\"
unfolding is_written_bare digits
byte_in_quotes = refl

string_left_open : Misplaced (reads a_first open_list) an_open_string "" of_script ": a term or ']' expected, found a string that is not closed: it has characters 32 to 126, and \\\" and \\\\ for \" and \\"
unfolding is_written_bare digits
string_left_open = refl

byte_in_string : misplaced_text [] (reads a_first open_list) (record { thing = an_open_string; bytes = 195 ∷ [] }) of_script ≡ codes ": a term or ']' expected, found a string with the byte 195: it has characters 32 to 126, and \\\" and \\\\ for \" and \\"
unfolding is_written_bare digits
byte_in_string = refl

stop_in_tuple : Misplaced (reads an_after open_tuple) a_stop "" of_script ": ',' or '}' expected, found the full stop: '{' at 1:1 is not closed"
unfolding is_written_bare digits
stop_in_tuple = refl

closed_otherwise : Misplaced (reads an_after open_list) a_closer "}" of_script ": ',' or ']' expected, found '}': '[' at 1:1 is not closed"
unfolding is_written_bare digits
closed_otherwise = refl

closed_after_comma : Misplaced (reads an_element open_list) a_closer "]" of_script ": a term expected, found ']': no comma stands before a closing bracket"
unfolding is_written_bare digits
closed_after_comma = refl

end_without_stop : Misplaced (reads an_ending None) an_end "" of_script ": '.' expected, found the end of the text: a form ends with a full stop"
unfolding is_written_bare digits
end_without_stop = refl

stop_after_term : Misplaced (reads an_ending None) a_stop "" of_term ": the end of the text expected, found the full stop: the term has no full stop after it here"
unfolding is_written_bare digits
stop_after_term = refl

name_of_file : Misplaced (reads an_ending None) a_dot "" of_term ": the end of the text expected, found a dot: a specification in a file is given by --file"
unfolding is_written_bare digits
name_of_file = refl

dot_in_term : Misplaced (reads an_after open_list) a_dot "" of_term ": ',' or ']' expected, found a dot: a full stop has a blank, a comment or the end of the text after it"
unfolding is_written_bare digits
dot_in_term = refl

dot_in_word : Misplaced (reads an_after open_tuple) a_dot "" of_script ": ',' or '}' expected, found a dot: a full stop has a blank, a comment or the end of the text after it"
unfolding is_written_bare digits
dot_in_word = refl

float_here : Misplaced (reads a_first open_list) a_float "1.5" of_script ": a term or ']' expected, found the float 1.5: there are no floats"
unfolding is_written_bare digits
float_here = refl

pid_with_zeros : Misplaced (reads a_first open_tuple) a_pid "<0.007.0>" of_script ": a term or '}' expected, found the pid <0.007.0>: a pid is <0.N.0>, N without leading zeros"
unfolding is_written_bare digits
pid_with_zeros = refl

angle_here : Misplaced (reads a_first open_tuple) an_angle "<" of_script ": a term or '}' expected, found '<': a pid is <0.N.0>, N without leading zeros"
unfolding is_written_bare digits
angle_here = refl

binary_here : Misplaced (reads a_first open_list) a_binary "" of_script ": a term or ']' expected, found a binary: there are no binaries"
unfolding is_written_bare digits
binary_here = refl

map_here : Misplaced (reads an_element open_tuple) a_map "" of_script ": a term expected, found a map: there are no maps"
unfolding is_written_bare digits
map_here = refl

hash_here : Misplaced (reads an_element open_tuple) a_hash "#" of_script ": a term expected, found '#': there are no references, ports or records, and numbers are decimal"
unfolding is_written_bare digits
hash_here = refl

literal_here : Misplaced (reads an_element open_tuple) a_literal "$a" of_script ": a term expected, found the character $a: a character is written as its number"
unfolding is_written_bare digits
literal_here = refl

bar_here : Misplaced (reads an_after open_list) a_bar "|" of_script ": ',' or ']' expected, found '|': a list has no tail, though one of a node may have"
unfolding is_written_bare digits
bar_here = refl

variable_here : Misplaced (reads an_element open_tuple) a_variable_word "To" of_script ": a term expected, found the variable To: variables are written in quotes, 'To'"
unfolding is_written_bare digits
variable_here = refl

number_with_a_gap : Misplaced (reads an_after open_tuple) a_variable_word "_000" of_script ": ',' or '}' expected, found the variable _000: numbers have no '_', and variables are written in quotes, '_000'"
unfolding is_written_bare digits
number_with_a_gap = refl

call_here : Misplaced (reads an_after open_tuple) a_mark "(" of_script ": ',' or '}' expected, found '(': a term has no calls, and 'Self' is the own pid"
unfolding is_written_bare digits
call_here = refl

sign_alone : Misplaced (reads an_element open_tuple) a_mark "-" of_script ": a term expected, found '-': a sign stands before its digits, as in -1"
unfolding is_written_bare digits
sign_alone = refl

module_here : Misplaced (reads a_form None) a_mark "-" of_script ": a form expected, found '-': a script is no module, and its forms are {function,..}, {process,..} and {control,..}"
unfolding is_written_bare digits
module_here = refl

quote_here : misplaced_text [] (reads an_element open_tuple) (record { thing = a_byte; bytes = 226 ∷ [] }) of_script ≡ codes ": a term expected, found the byte 226: a typographic quote begins with it, and ' is meant"
unfolding is_written_bare digits
quote_here = refl

order_mark_here : misplaced_text [] (reads a_form None) (record { thing = a_byte; bytes = 239 ∷ [] }) of_script ≡ codes ": a form expected, found the byte 239: a byte order mark begins with it, and a script has none"
unfolding is_written_bare digits
order_mark_here = refl

reserved_here : Misplaced (reads an_element open_tuple) a_reserved_word "catch" of_script ": a term expected, found the reserved word catch: reserved words are written in quotes, 'catch'"
unfolding is_written_bare digits
reserved_here = refl

fun_here : Misplaced (reads an_element open_tuple) a_reserved_word "fun" of_script ": a term expected, found the reserved word fun: there are no funs, and the atom is written 'fun'"
unfolding is_written_bare digits
fun_here = refl

mark_here : Misplaced (reads an_element open_tuple) a_mark "?" of_script ": a term expected, found '?'"
unfolding is_written_bare digits
mark_here = refl

opener_here : Misplaced (reads an_after open_tuple) an_opener "[" of_script ": ',' or '}' expected, found '['"
unfolding is_written_bare digits
opener_here = refl

byte_here : misplaced_text [] (reads an_element open_tuple) (record { thing = a_byte; bytes = 1 ∷ [] }) of_script ≡ codes ": a term expected, found the byte 1"
unfolding is_written_bare digits
byte_here = refl

unread_before : Misplaced None a_quoted_atom "'b c'" of_script ": found the atom 'b c'"
unfolding is_written_bare digits
unread_before = refl

deep_bracket : deep_text (record { thing = an_opener; bytes = codes "[" }) ≡ codes ": level 33 begins with '['"
unfolding is_written_bare digits
deep_bracket = refl

deep_string : deep_text (record { thing = a_string; bytes = codes "\"a\"" }) ≡ codes ": level 33 begins with the string \"a\", which is a list"
unfolding is_written_bare digits
deep_string = refl

wide_tuple : large_text [] (reads an_after open_tuple) a_comma (codes ",") 0 ≡ codes ": the tuple at 1:1 goes on after element 255"
unfolding is_written_bare digits
wide_tuple = refl

wide_list : large_text [] (reads an_after open_list) a_comma (codes ",") 0 ≡ codes ": the list at 1:1 goes on after element 4096"
unfolding is_written_bare digits
wide_list = refl

long_atom : large_text [] None a_bare_atom (replicate 256 97) 0 ≡ codes ": the atom has 256 characters"
unfolding is_written_bare digits
long_atom = refl

long_quoted_atom : large_text [] None a_quoted_atom [] 256 ≡ codes ": the atom has 256 characters"
unfolding is_written_bare digits
long_quoted_atom = refl

long_string : large_text [] None a_string [] 4097 ≡ codes ": the string has 4097 characters"
unfolding is_written_bare digits
long_string = refl

large_pid : large_text [] None a_pid (codes "<0.4294967296.0>") 0 ≡ codes ": found the pid <0.4294967296.0>"
unfolding is_written_bare digits
large_pid = refl
