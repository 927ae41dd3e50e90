-- Rows: the texts of small trials.
use Rattle.std.proofs.Common.{◌≡◌, ℕ, List, [], ◌∷◌, None, pos, codes, refl}
use Rattle.std.specs.Fmt.{digits}
use Rattle.std.specs.Option.{option_map_or}
use Rattle.def_term.specs.Text.{is_written_bare}
use Rattle.def_term.specs.Tree.{Tree, int, tuple, list, none, more}
use Rattle.def_term.specs.Names.{word}
use Rattle.def_spec.specs.Matching.{Pattern, variable, anything, only_term, in_tuple, in_list, Patterns, no_patterns, and_pattern}
use Rattle.def_spec.specs.Functions as fn
use Rattle.def_spec.specs.Expressions.{for_calls, for_sends, Expr, bound_to, constant, tuple_of, list_of, call, perform, message, silent, enable_trace, disable_trace, trace, Exprs, no_exprs, and_expr, Context}
use Rattle.def_spec.specs.Outcome.{Clause}
use Rattle.def_session.specs.State.{alive_at_start}
use Rattle.def_explain.specs.Spellings.{spelling}
use Rattle.def_explain.specs.Heads.{head_reason}
use Rattle.def_explain.specs.Texts.{head_reason_text, spec_test_flags, spec_test_text}

-- hi and 1
abbrev hi_one : Context
hi_one = record { matched_list = word "hi" ∷ int (pos 1) ∷ []; self_pid = 100; caller_mfa = None; alive = alive_at_start 1; flags = spec_test_flags for_calls 100 }

abbrev pair : Pattern → Pattern → Pattern
pair p q = in_list (and_pattern p (and_pattern q no_patterns))

abbrev one : Expr → Exprs
one e = and_expr e no_exprs

-- {['$1','_'],[{is_integer,'$1'}],[]}
abbrev of_integer : Clause
of_integer = record { head = pair (variable 1) anything; conditions = one (call fn.is_integer (one (bound_to 1))); body = no_exprs }

-- {['$1','_'],[{hd,'$1'}],[]}
abbrev of_head : Clause
of_head = record { head = pair (variable 1) anything; conditions = one (call fn.head (one (bound_to 1))); body = no_exprs }

-- {['$1','$1'],[],[]}
abbrev of_twice : Clause
of_twice = record { head = pair (variable 1) (variable 1); conditions = no_exprs; body = no_exprs }

-- {['$1','_'],[],[{message,{{second,'$1'}}},{enable_trace,send}]}
abbrev with_message : Clause
with_message = record { head = pair (variable 1) anything; conditions = no_exprs; body = and_expr (perform message (one (tuple_of (and_expr (constant (word "second")) (one (bound_to 1)))))) (one (perform enable_trace (one (constant (word "send"))))) }

-- {'$7',[],[{silent,true}]}
abbrev whole_and_silent : Clause
whole_and_silent = record { head = variable 7; conditions = no_exprs; body = one (perform silent (one (constant (word "true")))) }

abbrev flag_list : Expr → Expr
flag_list f = list_of (one f)

-- {'_',[],[{message,{trace,[],[send]}},{message,{trace,[call],[call]}},{trace,[],[]}]}
abbrev tracing : Clause
tracing = record {
  head = anything;
  conditions = no_exprs;
  body =
      and_expr (perform message (one (perform trace (and_expr (list_of no_exprs) (one (flag_list (constant (word "send"))))))))
      (and_expr (perform message (one (perform trace (and_expr (flag_list (constant (word "call"))) (one (flag_list (constant (word "call"))))))))
      (one (perform trace (and_expr (list_of no_exprs) (one (list_of no_exprs))))));
}

-- ---- heads

abbrev patterns : List Pattern → Patterns
patterns [] = no_patterns
patterns (p ∷ ps) = and_pattern p (patterns ps)

-- why the head of these patterns doesn't match these terms
abbrev head_text : List Pattern → List Tree → List ℕ
head_text ps ts = option_map_or head_reason_text (head_reason (in_list (patterns ps)) ts) []

abbrev seven : Tree
seven = int (pos 7)

-- ['_',{hi,[]}] on [7,{hi,[7]}]
pub below_an_element : head_text (anything ∷ in_tuple (patterns (only_term (word "hi") ∷ in_list no_patterns ∷ [])) ∷ []) (seven ∷ tuple (more (word "hi") (more (list (more seven none)) none)) ∷ [])
    ≡ codes "the head doesn't match at element 2, element 2: a list of 0 expected, found [7]"
unfolding is_written_bare digits
below_an_element = refl

-- ['$3',['$3',hi]] on [7,[7,7]]
pub another_term : head_text (variable 3 ∷ in_list (patterns (variable 3 ∷ only_term (word "hi") ∷ [])) ∷ []) (seven ∷ list (more seven (more seven none)) ∷ [])
    ≡ codes "the head doesn't match at element 2, element 2: hi expected, found 7"
unfolding is_written_bare digits
another_term = refl

-- ['$3',['$3',hi]] on [hi,[7,7]]
pub another_value : head_text (variable 3 ∷ in_list (patterns (variable 3 ∷ only_term (word "hi") ∷ [])) ∷ []) (word "hi" ∷ list (more seven (more seven none)) ∷ [])
    ≡ codes "the head doesn't match at element 2, element 1: '$3' is hi, found 7"
unfolding is_written_bare digits
another_value = refl

-- [{'_','_'}] on [hi]
pub no_tuple : head_text (in_tuple (patterns (anything ∷ anything ∷ [])) ∷ []) (word "hi" ∷ []) ≡ codes "the head doesn't match at element 1: a tuple of 2 expected, found hi"
unfolding is_written_bare digits
no_tuple = refl

-- ---- clauses

-- two clauses that don't fire, one that does, and one that isn't reached
pub third_fires : spec_test_text for_calls (of_integer ∷ of_twice ∷ with_message ∷ of_head ∷ []) hi_one
    ≡ codes "clause 1: condition 1 is false: '$1' is hi\nclause 2: the head doesn't match at element 2: '$1' is hi, found 1\nclause 3 fires: message {second,hi}, <0.100.0> gets send\n  '$1' is hi\n=> a message that ends in {second,hi}\non a node: erlang:match_spec_test/3 with this list ends the node, and so do dbg:tp, dbg:tpl and dbg:tpe where the list is []\n"
unfolding is_written_bare digits
third_fires = refl

-- a fault, and none that fires
pub none_fires : spec_test_text for_calls (of_head ∷ []) hi_one ≡ codes "clause 1: condition 1 faults at {hd,'$1'}\n=> no message: no clause fires\n"
unfolding is_written_bare digits
none_fires = refl

-- `silent` is about calls alone; on a node about sends by a match specification too
pub silent_call : spec_test_text for_calls (whole_and_silent ∷ []) hi_one ≡ codes "clause 1 fires: silent true\n  '$7' is [hi,1]\n=> no message: silent\n"
unfolding is_written_bare digits
silent_call = refl

pub silent_send : spec_test_text for_sends (whole_and_silent ∷ []) hi_one ≡ codes "clause 1 fires: silent true\n  '$7' is [hi,1]\n=> a message\non a node: no message: silent\n"
unfolding is_written_bare digits
silent_send = refl

-- {'_',[],[{disable_trace,send}]}
abbrev clears_send : Clause
clears_send = record { head = anything; conditions = no_exprs; body = one (perform disable_trace (one (constant (word "send")))) }

-- a send that ends a node, and a call that doesn't
abbrev on_send : Context
on_send = record hi_one { flags = spec_test_flags for_sends 100 }

pub last_flag_of_a_sender : spec_test_text for_sends (clears_send ∷ []) on_send
    ≡ codes "clause 1 fires: <0.100.0> loses send\n=> a message\non a node: this send ends the node with a segmentation fault, since the body clears the sender's last flag\n"
unfolding is_written_bare digits
last_flag_of_a_sender = refl

pub another_flag_of_a_caller : spec_test_text for_calls (clears_send ∷ []) hi_one
    ≡ codes "clause 1 fires: <0.100.0> loses send\n=> a message\non a node: erlang:match_spec_test/3 with this list ends the node, and so do dbg:tp, dbg:tpl and dbg:tpe where the list is []\n"
unfolding is_written_bare digits
another_flag_of_a_caller = refl

-- a change is reported as it is asked for, whatever it changes; the process has `call` before it
pub changed_flags : spec_test_text for_calls (tracing ∷ []) hi_one
    ≡ codes "clause 1 fires: <0.100.0> gets send, message true, <0.100.0> loses call gets call, message false, <0.100.0> keeps its flags\n=> no message: it is false\non a node: erlang:match_spec_test/3 with this list ends the node, and so do dbg:tp, dbg:tpl and dbg:tpe where the list is []\n"
unfolding is_written_bare digits
changed_flags = refl

-- an atom that would be read as a variable, and one that wouldn't
pub spelled_variable : spelling (constant (word "$1")) ≡ tuple (more (word "const") (more (word "$1") none))
spelled_variable = refl

pub spelled_atom : spelling (constant (word "a")) ≡ word "a"
spelled_atom = refl
