-- Rows: why small clauses don't fire, and why small sessions tell nothing.
use Rattle.std.proofs.Common.{◌≡◌, ℕ, true, false, List, [], ◌∷◌, Some, None, pos, codes, refl}
use Rattle.std.specs.Prelude.{replicate}
use Rattle.def_term.specs.Tree.{Tree, int, tuple, list, none, of_elements}
use Rattle.def_term.specs.Names.{Mfa, word}
use Rattle.def_spec.specs.Flags.{Flags, no_flags, only, union, send_flag, call_flag, silent_flag}
use Rattle.def_spec.specs.Matching.{Pattern, variable, anything, only_term, in_tuple, in_list, Patterns, no_patterns, and_pattern}
use Rattle.def_spec.specs.Functions as fn
use Rattle.def_spec.specs.Expressions.{for_calls, Expr, bound_to, constant, call, and_also, perform, message, Exprs, no_exprs, and_expr, Context}
use Rattle.def_spec.specs.Outcome.{Clause}
use Rattle.def_script.specs.Program.{error}
use Rattle.def_node.specs.Event.{Event, Call, sent, called, returned, raised}
use Rattle.def_session.specs.Settings.{Setting, off, plain, by, one}
use Rattle.def_session.specs.State.{MarkKind, for_returns, for_exceptions, Session, live, new_session, alive_at_start, with_flags, with_marks}
use Rattle.def_explain.specs.Mismatches.{is_term, is_bound, is_tuple_of, is_list_of, mismatch, mismatch_of}
use Rattle.def_explain.specs.Heads.{no_list, other_length, after_matching}
use Rattle.def_explain.specs.Reasons.{by_head, by_condition, has_value, faults_at, reason_of}
use Rattle.def_explain.specs.Causes.{no_mark, marked_for_returns, no_flag, no_setting, of_named_calls, switched_off, no_clause, silenced, message_false, cause_of}

-- ---- clauses

abbrev number : ℕ → Tree
number n = int (pos n)

abbrev on : List Tree → Context
on ts = record { matched_list = ts; self_pid = 100; caller_mfa = None; alive = alive_at_start 1; flags = replicate 64 no_flags }

abbrev pair : Pattern → Pattern → Pattern
pair p q = in_list (and_pattern p (and_pattern q no_patterns))

abbrev unary : fn.Func → Expr → Expr
unary f e = call f (and_expr e no_exprs)

abbrev above : Expr → Expr → Expr
above e f = call fn.greater (and_expr e (and_expr f no_exprs))

abbrev clause : Pattern → Exprs → Clause
clause p es = record { head = p; conditions = es; body = no_exprs }

-- [{['$1','$1'],[],[]}] on [1,2]: the first element matches, and with the second they don't
pub second_element : reason_of for_calls (clause (pair (variable 1) (variable 1)) no_exprs) (on (number 1 ∷ number 2 ∷ [])) ≡ Some (by_head (after_matching 1 (mismatch [] (is_bound 1 (number 1)) (number 2))))
second_element = refl

-- the same on [1,1] fires
pub equal_elements : reason_of for_calls (clause (pair (variable 1) (variable 1)) no_exprs) (on (number 1 ∷ number 1 ∷ [])) ≡ None
equal_elements = refl

-- a head of two elements on a list of one
pub two_for_one : reason_of for_calls (clause (pair anything anything) no_exprs) (on (number 1 ∷ [])) ≡ Some (by_head other_length)
two_for_one = refl

-- a head that is a term of its own
pub term_for_list : reason_of for_calls (clause (only_term (word "a")) no_exprs) (on []) ≡ Some (by_head no_list)
term_for_list = refl

-- {'>','$1',3} where '$1' is 2
pub false_condition : reason_of for_calls (clause (pair (variable 1) anything) (and_expr (above (bound_to 1) (constant (number 3))) no_exprs)) (on (number 2 ∷ number 0 ∷ [])) ≡ Some (by_condition 0 (has_value (word "false") ((1, number 2) ∷ [])))
false_condition = refl

-- {hd,'$1'} where '$1' is [], after a condition that is true
pub fault_of_head : reason_of for_calls (clause (pair (variable 1) anything) (and_expr (constant (word "true")) (and_expr (above (unary fn.head (bound_to 1)) (constant (number 3))) no_exprs))) (on (list none ∷ number 0 ∷ [])) ≡ Some (by_condition 1 (faults_at (unary fn.head (bound_to 1))))
fault_of_head = refl

-- {'andalso',false,{hd,[]}} is false, and doesn't fault
pub early_stop : reason_of for_calls (clause anything (and_expr (and_also (and_expr (constant (word "false")) (and_expr (unary fn.head (constant (list none))) no_exprs))) no_exprs)) (on []) ≡ Some (by_condition 0 (has_value (word "false") []))
early_stop = refl

-- ---- where a head differs first

abbrev patterns : List Pattern → Patterns
patterns [] = no_patterns
patterns (p ∷ ps) = and_pattern p (patterns ps)

abbrev braces : List Pattern → Pattern
braces ps = in_tuple (patterns ps)

abbrev brackets : List Pattern → Pattern
brackets ps = in_list (patterns ps)

abbrev tuple_of : List Tree → Tree
tuple_of ts = tuple (of_elements ts)

abbrev list_of : List Tree → Tree
list_of ts = list (of_elements ts)

abbrev a : Tree
a = word "a"

-- [a,7] on [a,8]
pub other_term : mismatch_of (brackets (only_term a ∷ only_term (number 7) ∷ [])) (list_of (a ∷ number 8 ∷ [])) ≡ Some (mismatch (1 ∷ []) (is_term (number 7)) (number 8))
other_term = refl

-- both differ, and the first is answered
pub first_of_two : mismatch_of (brackets (only_term a ∷ only_term (number 7) ∷ [])) (list_of (number 6 ∷ number 8 ∷ [])) ≡ Some (mismatch (0 ∷ []) (is_term a) (number 6))
first_of_two = refl

-- [{a,['$1']},'$1'] on [{a,[5]},{5}]
pub met_before : mismatch_of (brackets (braces (only_term a ∷ brackets (variable 1 ∷ []) ∷ []) ∷ variable 1 ∷ [])) (list_of (tuple_of (a ∷ list_of (number 5 ∷ []) ∷ []) ∷ tuple_of (number 5 ∷ []) ∷ [])) ≡ Some (mismatch (1 ∷ []) (is_bound 1 (number 5)) (tuple_of (number 5 ∷ [])))
met_before = refl

-- ['$1',{a,['_','$1']}] on [5,{a,[6,7]}]: three levels down
pub third_level : mismatch_of (brackets (variable 1 ∷ braces (only_term a ∷ brackets (anything ∷ variable 1 ∷ []) ∷ []) ∷ [])) (list_of (number 5 ∷ tuple_of (a ∷ list_of (number 6 ∷ number 7 ∷ []) ∷ []) ∷ [])) ≡ Some (mismatch (1 ∷ 1 ∷ 1 ∷ []) (is_bound 1 (number 5)) (number 7))
third_level = refl

-- ['_',{'_','_'}] on [a,[a,a]]: a list is no tuple
pub no_tuple : mismatch_of (brackets (anything ∷ braces (anything ∷ anything ∷ []) ∷ [])) (list_of (a ∷ list_of (a ∷ a ∷ []) ∷ [])) ≡ Some (mismatch (1 ∷ []) (is_tuple_of 2) (list_of (a ∷ a ∷ [])))
no_tuple = refl

-- [[a,7,'_']] on [[6,8]]: of another length, before its elements are looked at
pub shorter : mismatch_of (brackets (brackets (only_term a ∷ only_term (number 7) ∷ anything ∷ []) ∷ [])) (list_of (list_of (number 6 ∷ number 8 ∷ []) ∷ [])) ≡ Some (mismatch (0 ∷ []) (is_list_of 3) (list_of (number 6 ∷ number 8 ∷ [])))
shorter = refl

-- [{'$1','$1'}] on [{a,a}] matches
pub nowhere : mismatch_of (brackets (braces (variable 1 ∷ variable 1 ∷ []) ∷ [])) (list_of (tuple_of (a ∷ a ∷ []) ∷ [])) ≡ None
nowhere = refl

-- ---- sessions

abbrev plain_session : Session
plain_session = new_session live (alive_at_start 2)

abbrev flagged : Flags → Session
flagged f = with_flags plain_session 100 f

abbrev hello : Event
hello = sent 100 (word "hello") 101 true

abbrev function : Mfa
function = record { module_name = codes "m"; function_name = codes "f"; arity = 0 }

abbrev local_call : Call
local_call = record { mfa = function; args = []; named = false; exported = true; caller = None; depth = 1 }

abbrev set_for : Setting → Session → Session
set_for g s = record s { functions = record { covered = one function; setting = g; local = false } ∷ [] }

-- no flag `send`
pub without_flag : cause_of plain_session hello ≡ Some (no_flag send_flag)
without_flag = refl

-- with the flag the send is reported
pub with_flag : cause_of (flagged (only send_flag)) hello ≡ None
with_flag = refl

-- trace:send(S, false, [])
pub sends_off : cause_of (record (flagged (only send_flag)) { sending = off }) hello ≡ Some switched_off
sends_off = refl

-- no command covers m:f/0
pub uncovered : cause_of (flagged (only call_flag)) (called 100 local_call) ≡ Some no_setting
uncovered = refl

-- the setting is global, and the call doesn't name the module
pub global_setting : cause_of (set_for plain (flagged (only call_flag))) (called 100 local_call) ≡ Some of_named_calls
global_setting = refl

-- no clause fires, with the reason of each
pub no_clause_fires : cause_of (set_for (by (record { dialect = for_calls; clauses = clause (pair anything anything) no_exprs ∷ clause anything (and_expr (constant (word "false")) no_exprs) ∷ [] })) (flagged (only call_flag))) (called 100 (record local_call { named = true })) ≡ Some (no_clause (by_head other_length ∷ by_condition 0 (has_value (word "false") []) ∷ []))
no_clause_fires = refl

-- {message,false}
pub false_message : cause_of (set_for (by (record { dialect = for_calls; clauses = record { head = anything; conditions = no_exprs; body = and_expr (perform message (and_expr (constant (word "false")) no_exprs)) no_exprs } ∷ [] })) (flagged (only call_flag))) (called 100 (record local_call { named = true })) ≡ Some message_false
false_message = refl

-- the flag `silent`
pub silent_call : cause_of (set_for plain (flagged (union (only call_flag) (only silent_flag)))) (called 100 (record local_call { named = true })) ≡ Some silenced
silent_call = refl

-- the return of a frame without a mark
pub unmarked_return : cause_of (flagged (only call_flag)) (returned 100 function (word "ok") 1) ≡ Some no_mark
unmarked_return = refl

-- a session whose process has a mark of this kind at depth 1
abbrev marked : MarkKind → Session → Session
marked k s = with_marks s 100 (record { depth = 1; kind = k } ∷ [])

-- an exception that leaves a frame without a mark
pub unmarked_exception : cause_of (flagged (only call_flag)) (raised 100 function error (word "bad") 1) ≡ Some no_mark
unmarked_exception = refl

-- one that leaves a frame with a mark for returns, whether the process has the flag or not
pub exception_marked_for_returns : cause_of (marked for_returns plain_session) (raised 100 function error (word "bad") 1) ≡ Some marked_for_returns
exception_marked_for_returns = refl

-- and one with a mark for exceptions, without the flag and with it
pub exception_without_flag : cause_of (marked for_exceptions plain_session) (raised 100 function error (word "bad") 1) ≡ Some (no_flag call_flag)
exception_without_flag = refl

pub told_exception : cause_of (marked for_exceptions (flagged (only call_flag))) (raised 100 function error (word "bad") 1) ≡ None
told_exception = refl

pub silent_exception : cause_of (marked for_exceptions (flagged (union (only call_flag) (only silent_flag)))) (raised 100 function error (word "bad") 1) ≡ Some silenced
silent_exception = refl

-- a return is reported by either mark
pub return_marked_for_exceptions : cause_of (marked for_exceptions (flagged (only call_flag))) (returned 100 function (word "ok") 1) ≡ None
return_marked_for_exceptions = refl
