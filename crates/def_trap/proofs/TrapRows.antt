-- Rows: specifications by their texts' terms, each with the trap that it has, worked out by hand.
use Rattle.std.specs.Prelude.{◌≡◌, [], ◌∷◌, Some, None, codes, refl}
use Rattle.std.specs.Fmt.{digits}
use Rattle.def_term.specs.Tree.{atom}
use Rattle.def_term.specs.Text.{is_written_bare}
use Rattle.def_spec.specs.Matching.{variable, anything, in_list, no_patterns, and_pattern}
use Rattle.def_spec.specs.Expressions.{for_calls, for_sends, for_receives, return_trace, exception_trace, enable_trace, trace, constant, list_of, perform, no_exprs, and_expr}
use Rattle.def_trap.specs.Traps.{names_action, marks_no_call, lacks_flag, of_head, of_body, body_trap, head_trap, first_trap, list_lengths}
use Rattle.def_trap.specs.TrapTexts.{clause_trap_text}

-- [{'_',[],[return_trace]}] of calls
bare_name : first_trap for_calls (list_lengths for_calls (1 ∷ [])) (record { head = anything; conditions = no_exprs; body = and_expr (constant (atom (codes "return_trace"))) no_exprs } ∷ [])
    ≡ Some (0, of_body 0 (names_action (codes "return_trace")))
bare_name = refl

-- true as an expression of a body is no name of an action, and {return_trace} of calls is the action
no_trap : first_trap for_calls (list_lengths for_calls (1 ∷ []))
    (record { head = anything; conditions = no_exprs; body = and_expr (constant (atom (codes "true"))) (and_expr (perform return_trace no_exprs) no_exprs) } ∷ []) ≡ None
no_trap = refl

-- {exception_trace} of sends, after a message
mark_of_send : body_trap for_sends (perform exception_trace no_exprs) ≡ Some (marks_no_call exception_trace)
mark_of_send = refl

-- {enable_trace,calls}; call is a flag
no_flag_row : body_trap for_calls (perform enable_trace (and_expr (constant (atom (codes "calls"))) no_exprs)) ≡ Some (lacks_flag enable_trace (atom (codes "calls")))
no_flag_row = refl

flag_row : body_trap for_calls (perform enable_trace (and_expr (constant (atom (codes "call"))) no_exprs)) ≡ None
flag_row = refl

-- {trace,[],[call,m]}
no_flags_row : body_trap for_sends (perform trace (and_expr (list_of no_exprs) (and_expr (list_of (and_expr (constant (atom (codes "call"))) (and_expr (constant (atom (codes "m"))) no_exprs))) no_exprs)))
    ≡ Some (lacks_flag trace (atom (codes "m")))
no_flags_row = refl

-- a head ['$1'] of sends, and ['$1','_','_'] of receives
one_of_two : head_trap (list_lengths for_sends []) (in_list (and_pattern (variable 1) no_patterns)) ≡ Some (of_head 1)
one_of_two = refl

three_of_three : head_trap (list_lengths for_receives []) (in_list (and_pattern (variable 1) (and_pattern anything (and_pattern anything no_patterns)))) ≡ None
three_of_three = refl

-- calls of functions with one argument and with two: [] is of none
none_of_two : head_trap (list_lengths for_calls (1 ∷ 2 ∷ [])) (in_list no_patterns) ≡ Some (of_head 0)
none_of_two = refl

-- ---- lines

line_of_name : clause_trap_text for_calls 0 (of_body 0 (names_action (codes "return_trace"))) ≡ codes "clause 1: body 1: return_trace is a constant, and no call of the action"
unfolding digits is_written_bare
line_of_name = refl

line_of_head : clause_trap_text for_sends 1 (of_head 1) ≡ codes "clause 2: the head has 1 elements, the list of a send is [Receiver,Message]"
unfolding digits
line_of_head = refl

line_of_mark : clause_trap_text for_receives 0 (of_body 2 (marks_no_call return_trace)) ≡ codes "clause 1: body 3: return_trace has no effect on a receive"
unfolding digits
line_of_mark = refl

line_of_flag : clause_trap_text for_calls 0 (of_body 0 (lacks_flag enable_trace (atom (codes "calls")))) ≡ codes "clause 1: body 1: enable_trace has no effect, calls is no flag"
unfolding digits is_written_bare
line_of_flag = refl
