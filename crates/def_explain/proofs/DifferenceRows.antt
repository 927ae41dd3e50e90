-- Rows: where a node does otherwise, and where it doesn't.
use Rattle.std.proofs.Common.{◌≡◌, ℕ, Option, true, false, List, [], ◌∷◌, Some, None, codes, refl}
use Rattle.std.specs.Prelude.{replicate}
use Rattle.def_term.specs.Names.{Mfa, word}
use Rattle.def_spec.specs.Flags.{Flag, Flags, no_flags, only, union, with_flags_in, send_flag, receive_flag, call_flag, procs_flag, silent_flag, set_on_spawn, set_on_first_spawn, set_on_link}
use Rattle.def_spec.specs.Expressions.{for_calls, for_sends, for_receives, Expr, whole_list, all_bound, constant, tuple_of, list_of, call, and_also, perform, message, Exprs, no_exprs, and_expr, Context, Effect, gives_message, traces_return, traces_exception, silences, changes}
use Rattle.def_spec.specs.Functions as fn
use Rattle.def_spec.specs.Matching.{Pattern, anything, in_list, no_patterns, and_pattern}
use Rattle.def_spec.specs.Outcome.{Clause}
use Rattle.def_outlook.specs.Outlook.{RuntimeError, calls_past_limit, sends_to_no_pid, links_to_no_pid, unlinks_from_no_pid, Outlook, nothing_ahead}
use Rattle.def_session.specs.Settings.{off}
use Rattle.def_node.specs.Event.{Event, received, spawned, exited, linked, getting_linked}
use Rattle.def_session.specs.State.{for_returns, for_exceptions, live, new_session, alive_at_start, Session, MarkKind, with_flags, with_marks}
use Rattle.def_explain.specs.Differences.{Difference, node_ends, reads_freed, suppresses_message, leaves_no_mark, ignores_silent, reports_exceptions, inherits_alone, evaluates_from_right, reads_no_list, catches_error, reports_attempt, raises_noproc, reports_later, adds_calls, ends_test, order_difference, list_difference, body_differences, test_differences, event_difference, step_differences, has_mark_below}

-- ---- bodies, in the process 100

-- it has these flags
abbrev having : Flags → Context
having f = record { matched_list = []; self_pid = 100; caller_mfa = None; alive = alive_at_start 2; flags = with_flags_in (replicate 64 no_flags) 100 f }

abbrev and : Flag → Flag → Flags
and f g = union (only f) (only g)

abbrev loses : Flag → Effect
loses f = changes 100 (only f) no_flags

abbrev gets : Flag → Effect
gets f = changes 100 no_flags (only f)

-- {disable_trace,send} with the flags [send]
pub last_flag_of_a_sender : body_differences for_sends (having (only send_flag)) (loses send_flag ∷ []) ≡ node_ends ∷ []
last_flag_of_a_sender = refl

-- with another flag left; where `trace` takes another one; and where one is set before
pub another_flag_left : body_differences for_sends (having (and send_flag procs_flag)) (loses send_flag ∷ []) ≡ []
another_flag_left = refl

pub another_flag_taken : body_differences for_sends (having (and send_flag procs_flag)) (changes 100 (only procs_flag) no_flags ∷ []) ≡ []
another_flag_taken = refl

pub another_flag_set : body_differences for_sends (having (only send_flag)) (gets procs_flag ∷ loses send_flag ∷ []) ≡ []
another_flag_set = refl

-- both flags, one after the other
pub both_flags_of_a_sender : body_differences for_sends (having (and send_flag procs_flag)) (loses procs_flag ∷ loses send_flag ∷ []) ≡ node_ends ∷ []
both_flags_of_a_sender = refl

-- set again
pub last_flag_set_again : body_differences for_sends (having (only send_flag)) (loses send_flag ∷ gets send_flag ∷ []) ≡ node_ends ∷ []
last_flag_set_again = refl

-- {trace,[send],[send]} clears and sets in one change
pub cleared_and_set : body_differences for_sends (having (only send_flag)) (changes 100 (only send_flag) (only send_flag) ∷ []) ≡ []
cleared_and_set = refl

-- {message,false}; the flags of another process; a receive; a call
pub send_without_message : body_differences for_sends (having (only send_flag)) (loses send_flag ∷ gives_message (word "false") ∷ []) ≡ []
send_without_message = refl

pub flag_of_another : body_differences for_sends (having (only send_flag)) (changes 101 (only send_flag) no_flags ∷ []) ≡ []
flag_of_another = refl

pub last_flag_of_a_receiver : body_differences for_receives (having (only receive_flag)) (loses receive_flag ∷ []) ≡ []
last_flag_of_a_receiver = refl

pub last_flag_of_a_caller : body_differences for_calls (having (only call_flag)) (loses call_flag ∷ []) ≡ []
last_flag_of_a_caller = refl

-- [{disable_trace,call},{enable_trace,procs}] with the flags [call]; the same by `trace` after an effect of another kind; and where the last flag isn't taken before
pub flag_given_again : body_differences for_calls (having (only call_flag)) (loses call_flag ∷ gets procs_flag ∷ []) ≡ reads_freed ∷ []
flag_given_again = refl

pub flag_given_again_later : body_differences for_calls (having (only call_flag)) (loses call_flag ∷ traces_return ∷ changes 100 (only send_flag) (only call_flag) ∷ []) ≡ reads_freed ∷ []
flag_given_again_later = refl

pub flag_given_before : body_differences for_calls (having (only call_flag)) (gets procs_flag ∷ loses call_flag ∷ []) ≡ []
flag_given_before = refl

pub flag_given_with_a_flag : body_differences for_calls (having (and call_flag send_flag)) (loses call_flag ∷ gets procs_flag ∷ []) ≡ []
flag_given_with_a_flag = refl

pub call_flag_cleared_and_set : body_differences for_calls (having (only call_flag)) (changes 100 (only call_flag) (only call_flag) ∷ []) ≡ []
call_flag_cleared_and_set = refl

-- by a change of another process; by one that sets none; and where there is no message
pub flag_of_another_given : body_differences for_calls (having (only call_flag)) (loses call_flag ∷ changes 101 no_flags (only procs_flag) ∷ []) ≡ []
flag_of_another_given = refl

pub no_flag_given : body_differences for_calls (having (only call_flag)) (loses call_flag ∷ loses procs_flag ∷ []) ≡ []
no_flag_given = refl

pub flag_given_without_message : body_differences for_calls (having (only call_flag)) (loses call_flag ∷ gets call_flag ∷ gives_message (word "false") ∷ []) ≡ []
flag_given_without_message = refl

-- a silent send and a silent receive, and where silence ends
pub silent_send : body_differences for_sends (having (only send_flag)) (silences true ∷ []) ≡ suppresses_message ∷ []
silent_send = refl

pub silent_receive : body_differences for_receives (having (and receive_flag silent_flag)) [] ≡ suppresses_message ∷ []
silent_receive = refl

pub send_after_silence : body_differences for_sends (having (and send_flag silent_flag)) (silences false ∷ []) ≡ []
send_after_silence = refl

pub silent_send_without_message : body_differences for_sends (having (and send_flag silent_flag)) (gives_message (word "false") ∷ []) ≡ []
silent_send_without_message = refl

-- a silent call that asks for a mark; one that isn't silent, and one that asks for none
pub silent_call : body_differences for_calls (having (only call_flag)) (traces_exception ∷ silences true ∷ []) ≡ leaves_no_mark ∷ []
silent_call = refl

pub call_with_a_mark : body_differences for_calls (having (only call_flag)) (traces_return ∷ []) ≡ []
call_with_a_mark = refl

pub silent_call_without_mark : body_differences for_calls (having (only call_flag)) (silences true ∷ []) ≡ []
silent_call_without_mark = refl

-- [{disable_trace,call},{silent,true}] with the flags [call]; the other way round; with another flag left; where silence ends; and a send
pub silent_without_flags : body_differences for_calls (having (only call_flag)) (loses call_flag ∷ silences true ∷ []) ≡ ignores_silent ∷ []
silent_without_flags = refl

pub silent_with_a_flag : body_differences for_calls (having (only call_flag)) (silences true ∷ loses call_flag ∷ []) ≡ []
silent_with_a_flag = refl

pub silent_with_a_flag_left : body_differences for_calls (having (and call_flag send_flag)) (loses call_flag ∷ silences true ∷ []) ≡ []
silent_with_a_flag_left = refl

pub silence_that_ends_without_flags : body_differences for_calls (having (only call_flag)) (loses call_flag ∷ silences false ∷ []) ≡ []
silence_that_ends_without_flags = refl

pub silent_send_without_flags : body_differences for_sends (having (only send_flag)) (loses send_flag ∷ silences true ∷ []) ≡ node_ends ∷ suppresses_message ∷ []
silent_send_without_flags = refl

-- what is silent has no flag, and then a flag is given
pub silent_and_given_again : body_differences for_calls (having (only call_flag)) (loses call_flag ∷ silences true ∷ gets call_flag ∷ []) ≡ reads_freed ∷ ignores_silent ∷ []
silent_and_given_again = refl

-- ---- a test of a specification

-- [{enable_trace,send}], of the flags of another process, for sends, without flags, and without a change
pub test_that_changes : test_differences for_calls (having (only call_flag)) (gets send_flag ∷ []) ≡ ends_test ∷ []
test_that_changes = refl

pub test_that_clears : test_differences for_calls (having (only call_flag)) (traces_return ∷ changes 101 (only send_flag) no_flags ∷ []) ≡ ends_test ∷ []
test_that_clears = refl

pub test_of_a_send : test_differences for_sends (having (only send_flag)) (gets procs_flag ∷ []) ≡ []
test_of_a_send = refl

pub test_without_flags : test_differences for_calls (having (only call_flag)) (changes 100 no_flags no_flags ∷ silences true ∷ gives_message (word "a") ∷ []) ≡ []
test_without_flags = refl

-- ---- the order of evaluation

abbrev says : Expr
says = perform message (and_expr (constant (word "a")) no_exprs)

abbrev both : Expr → Expr → Exprs
both e f = and_expr e (and_expr f no_exprs)

-- {'>',{message,a},{message,a}}, {{{message,a},{message,a}}}, and the same in a list that is an argument
pub two_actions_of_a_call : order_difference (and_expr (call fn.greater (both says says)) no_exprs) ≡ Some evaluates_from_right
two_actions_of_a_call = refl

pub two_actions_of_a_tuple : order_difference (and_expr (tuple_of (both says says)) no_exprs) ≡ Some evaluates_from_right
two_actions_of_a_tuple = refl

pub two_actions_in_a_list_of_a_call : order_difference (and_expr (perform message (and_expr (list_of (and_expr (tuple_of (both says says)) no_exprs)) no_exprs)) no_exprs) ≡ Some evaluates_from_right
two_actions_in_a_list_of_a_call = refl

-- one of two parts; two expressions of a body; two elements of a list; two tests of `andalso`
pub one_action_of_a_call : order_difference (and_expr (call fn.greater (both says (constant (word "true")))) no_exprs) ≡ None
one_action_of_a_call = refl

pub two_actions_of_a_body : order_difference (both says says) ≡ None
two_actions_of_a_body = refl

pub two_actions_of_a_list : order_difference (and_expr (list_of (both says says)) no_exprs) ≡ None
two_actions_of_a_list = refl

pub two_actions_of_andalso : order_difference (and_expr (and_also (both says says)) no_exprs) ≡ None
two_actions_of_andalso = refl

-- ---- the list of no elements

abbrev clause : Pattern → (conditions body : Exprs) → Clause
clause head conditions body = record { head = head; conditions = conditions; body = body }

abbrev says_whole : Expr
says_whole = perform message (and_expr (list_of (and_expr whole_list no_exprs)) no_exprs)

-- {[],[],[{message,['$_']}]}, {[],['$_'],[]}, and the same after another head, for sends, and without '$_'
pub whole_list_of_none : list_difference for_calls (clause (in_list no_patterns) no_exprs (and_expr says_whole no_exprs)) ≡ Some reads_no_list
whole_list_of_none = refl

pub condition_of_none : list_difference for_calls (clause (in_list no_patterns) (and_expr whole_list no_exprs) no_exprs) ≡ Some reads_no_list
condition_of_none = refl

pub whole_list_of_any : list_difference for_calls (clause anything no_exprs (and_expr says_whole no_exprs)) ≡ None
whole_list_of_any = refl

pub whole_list_of_one : list_difference for_calls (clause (in_list (and_pattern anything no_patterns)) no_exprs (and_expr says_whole no_exprs)) ≡ None
whole_list_of_one = refl

pub whole_list_of_a_send : list_difference for_sends (clause (in_list no_patterns) no_exprs (and_expr says_whole no_exprs)) ≡ None
whole_list_of_a_send = refl

pub none_without_whole_list : list_difference for_calls (clause (in_list no_patterns) no_exprs (and_expr says (and_expr all_bound no_exprs))) ≡ None
none_without_whole_list = refl

-- ---- events of the process 100

abbrev with_these : Flags → Session
with_these f = with_flags (new_session live (alive_at_start 2)) 100 f

abbrev marked : MarkKind → Session → Session
marked k s = with_marks s 100 (record { depth = 2; kind = k } ∷ [])

abbrev function : Mfa
function = record { module_name = codes "m"; function_name = codes "f"; arity = 0 }

-- a spawn where new processes have another flag than the parent hands on; where they have the same; by a parent with both flags for spawns; and where the parent hands on nothing
abbrev new_with : (parent new : Flags) → Session
new_with parent new = record (with_these parent) { new_process_flags = new }

pub first_spawn : event_difference (new_with (and procs_flag set_on_first_spawn) (only send_flag)) (spawned 101 100 function []) ≡ Some inherits_alone
first_spawn = refl

pub every_spawn : event_difference (new_with (only set_on_spawn) (only procs_flag)) (spawned 101 100 function []) ≡ Some inherits_alone
every_spawn = refl

pub spawn_with_the_same_flag : event_difference (new_with (and procs_flag set_on_first_spawn) (only procs_flag)) (spawned 101 100 function []) ≡ None
spawn_with_the_same_flag = refl

pub spawn_with_its_own_flag : event_difference (new_with (and procs_flag set_on_first_spawn) (only set_on_first_spawn)) (spawned 101 100 function []) ≡ Some inherits_alone
spawn_with_its_own_flag = refl

pub spawn_that_hands_on_nothing : event_difference (new_with (only procs_flag) (only send_flag)) (spawned 101 100 function []) ≡ None
spawn_that_hands_on_nothing = refl

-- a link that hands on flags
pub link_that_gives_flags : event_difference (with_these (and procs_flag set_on_link)) (getting_linked 101 100) ≡ None
link_that_gives_flags = refl

-- ---- by the step at an event

-- the end by an error that a catch catches, and by one that none does; of a process without flags
abbrev ahead : RuntimeError → Option ℕ → Outlook
ahead x depth = record { error = Some x; caught_at = depth; is_awaited = false; own_link = None }

pub caught_error : step_differences (with_these (only procs_flag)) (ahead calls_past_limit (Some 2)) (exited 100 (word "system_limit")) ≡ catches_error ∷ adds_calls ∷ []
caught_error = refl

pub error_without_catch : step_differences (with_these (only procs_flag)) (ahead calls_past_limit None) (exited 100 (word "system_limit")) ≡ adds_calls ∷ []
error_without_catch = refl

pub caught_error_without_flag : step_differences (with_these no_flags) (ahead calls_past_limit (Some 2)) (exited 100 (word "system_limit")) ≡ []
caught_error_without_flag = refl

pub caught_signal : step_differences (with_these (only procs_flag)) (record nothing_ahead { caught_at = Some 2 }) (exited 100 (word "boom")) ≡ []
caught_signal = refl

-- a send, a link and an unlink of what is no pid, with the flag and without
pub send_to_no_pid : step_differences (with_these (only send_flag)) (ahead sends_to_no_pid None) (exited 100 (word "badarg")) ≡ reports_attempt ∷ adds_calls ∷ []
send_to_no_pid = refl

pub send_to_no_pid_without_flag : step_differences (with_these (only procs_flag)) (ahead sends_to_no_pid None) (exited 100 (word "badarg")) ≡ adds_calls ∷ []
send_to_no_pid_without_flag = refl

pub link_to_no_pid : step_differences (with_these (only procs_flag)) (ahead links_to_no_pid None) (exited 100 (word "badarg")) ≡ reports_attempt ∷ adds_calls ∷ []
link_to_no_pid = refl

pub unlink_from_no_pid : step_differences (with_these (only procs_flag)) (ahead unlinks_from_no_pid (Some 1)) (exited 100 (word "badarg")) ≡ reports_attempt ∷ catches_error ∷ adds_calls ∷ []
unlink_from_no_pid = refl

pub unlink_from_no_pid_without_flag : step_differences (with_these (only send_flag)) (ahead unlinks_from_no_pid None) (exited 100 (word "badarg")) ≡ adds_calls ∷ []
unlink_from_no_pid_without_flag = refl

-- an error with a call that is marked for exceptions; for returns; without `call`; of another process; and an exit signal
abbrev error_marked : Session → List Difference
error_marked s = step_differences s (ahead calls_past_limit None) (exited 100 (word "system_limit"))

pub error_with_a_marked_call : error_marked (marked for_exceptions (with_these (only call_flag))) ≡ adds_calls ∷ reports_exceptions ∷ []
unfolding has_mark_below
error_with_a_marked_call = refl

pub error_with_a_call_for_returns : error_marked (marked for_returns (with_these (only call_flag))) ≡ adds_calls ∷ []
unfolding has_mark_below
error_with_a_call_for_returns = refl

pub error_without_flag : error_marked (marked for_exceptions (with_these (only send_flag))) ≡ adds_calls ∷ []
error_without_flag = refl

pub error_of_another : step_differences (with_flags (marked for_exceptions (with_these (only call_flag))) 101 (only call_flag)) (ahead calls_past_limit None) (exited 101 (word "system_limit")) ≡ adds_calls ∷ []
unfolding has_mark_below
error_of_another = refl

pub signal_with_a_marked_call : step_differences (marked for_exceptions (with_these (only call_flag))) nothing_ahead (exited 100 (word "boom")) ≡ []
signal_with_a_marked_call = refl

-- a link to a process that isn't alive, with a flag and without
pub link_to_no_process : step_differences (with_these (only send_flag)) nothing_ahead (linked 100 163) ≡ raises_noproc ∷ []
link_to_no_process = refl

pub link_to_no_process_without_flag : step_differences (with_these no_flags) nothing_ahead (linked 100 163) ≡ []
link_to_no_process_without_flag = refl

-- an exit signal with the reason `noproc`
pub signal_of_an_error : step_differences (with_these (only send_flag)) nothing_ahead (exited 100 (word "noproc")) ≡ []
signal_of_an_error = refl

-- a receive while its process does something else; while it waits; and one that isn't reported
abbrev a_receive : Event
a_receive = received 100 101 (word "hi")

pub early_receive : step_differences (with_these (only receive_flag)) nothing_ahead a_receive ≡ reports_later ∷ []
early_receive = refl

pub awaited_receive : step_differences (with_these (only receive_flag)) (record nothing_ahead { is_awaited = true }) a_receive ≡ []
awaited_receive = refl

pub early_receive_without_flag : step_differences (with_these (only send_flag)) nothing_ahead a_receive ≡ []
early_receive_without_flag = refl

pub early_receive_without_setting : step_differences (record (with_these (only receive_flag)) { receiving = off }) nothing_ahead a_receive ≡ []
early_receive_without_setting = refl
