-- The code of worked specifications, computed, and the outcomes of its runs.
use Rattle.std.proofs.Common.{◌≡◌, [], ◌∷◌, pos, true, false, refl, Ok}
use Rattle.def_term.specs.Tree.{int, tuple, list, none, more}
use Rattle.def_term.specs.Names.{word}
use Rattle.def_spec.specs.Matching.{variable, anything, only_term, in_tuple, in_list, no_patterns, and_pattern}
use Rattle.def_spec.specs.Functions as fn
use Rattle.def_spec.specs.Functions.{truth}
use Rattle.def_spec.specs.Expressions.{for_calls, for_sends, message, trace, bound_to, whole_list, all_bound, constant, tuple_of, list_of, call, or_else, perform, no_exprs, and_expr}
use Rattle.def_spec.specs.Outcome.{Spec}
use Rattle.def_spec.specs.Reading.{spec_of}
use Rattle.def_machine.specs.Instructions.{kind_tuple, kind_list, goes_on_at, gives_exit, load_constant, load_list, load_own_pid, take_element, test_kind, test_length, test_equal, jump, build, apply_function, perform_action, change_flags, end_with_match, end_without_match}
use Rattle.def_machine.specs.Compilation.{code_of}
use Rattle.def_machine.specs.Acceptance.{is_checked}

-- [{['$1'],[{'>',{hd,'$1'},3}],[]},{['_'],[],[{message,second}]}]
abbrev guard_fault : Spec
guard_fault = record {
  dialect = for_calls;
  clauses =
      record {
        head = in_list (and_pattern (variable 1) no_patterns);
        conditions = and_expr (call fn.greater (and_expr (call fn.head (and_expr (bound_to 1) no_exprs)) (and_expr (constant (int (pos 3))) no_exprs))) no_exprs;
        body = no_exprs;
      }
      ∷ record {
        head = in_list (and_pattern anything no_patterns);
        conditions = no_exprs;
        body = and_expr (perform message (and_expr (constant (word "second")) no_exprs)) no_exprs;
      }
      ∷ [];
}

guard_fault_is_read : spec_of for_calls (list
    (more (tuple (more (list (more (word "$1") none)) (more (list (more (tuple (more (word ">") (more (tuple (more (word "hd") (more (word "$1") none))) (more (int (pos 3)) none)))) none)) (more (list none) none))))
    (more (tuple (more (list (more (word "_") none)) (more (list none) (more (list (more (tuple (more (word "message") (more (word "second") none))) none)) none)))) none)))
    ≡ Ok guard_fault
guard_fault_is_read = refl

-- a fault of the condition goes on at place 10, where the second clause begins
guard_fault_skips_clause : code_of guard_fault ≡
    load_list 0 ∷ test_kind 0 kind_list 10 ∷ test_length 0 1 10 ∷ take_element 1 0 0 10
    ∷ apply_function fn.head 2 (1 ∷ []) (goes_on_at 10) ∷ load_constant 3 (int (pos 3)) ∷ apply_function fn.greater 2 (2 ∷ 3 ∷ []) (goes_on_at 10)
    ∷ load_constant 3 (truth true) ∷ test_equal 2 3 10 ∷ end_with_match
    ∷ load_list 0 ∷ test_kind 0 kind_list 17 ∷ test_length 0 1 17 ∷ take_element 1 0 0 17
    ∷ load_constant 2 (word "second") ∷ perform_action for_calls message 2 (2 ∷ []) ∷ end_with_match
    ∷ end_without_match ∷ []
guard_fault_skips_clause = refl

guard_fault_is_checked : is_checked (code_of guard_fault) ≡ true
guard_fault_is_checked = refl

-- [{['$1','$1'],[],[{message,{hd,[]}}]}]: the second '$1' is compared, and the fault gives 'EXIT'
same_variable : code_of (record { dialect = for_calls; clauses = record { head = in_list (and_pattern (variable 1) (and_pattern (variable 1) no_patterns)); conditions = no_exprs; body = and_expr (perform message (and_expr (call fn.head (and_expr (list_of no_exprs) no_exprs)) no_exprs)) no_exprs } ∷ [] }) ≡
    load_list 0 ∷ test_kind 0 kind_list 10 ∷ test_length 0 2 10 ∷ take_element 1 0 0 10 ∷ take_element 2 0 1 10 ∷ test_equal 1 2 10
    ∷ load_constant 3 (list none) ∷ apply_function fn.head 3 (3 ∷ []) gives_exit ∷ perform_action for_calls message 3 (3 ∷ []) ∷ end_with_match
    ∷ end_without_match ∷ []
same_variable = refl

-- [{[{'$1',[a,{1}]},[2,'_'],{3}],[],[]}]: each part without a variable and without '_' is one constant
constant_is_folded : code_of (record { dialect = for_calls; clauses = record { head = in_list (and_pattern (in_tuple (and_pattern (variable 1) (and_pattern (in_list (and_pattern (only_term (word "a")) (and_pattern (in_tuple (and_pattern (only_term (int (pos 1))) no_patterns)) no_patterns))) no_patterns))) (and_pattern (in_list (and_pattern (only_term (int (pos 2))) (and_pattern anything no_patterns))) (and_pattern (in_tuple (and_pattern (only_term (int (pos 3))) no_patterns)) no_patterns))); conditions = no_exprs; body = no_exprs } ∷ [] }) ≡
    load_list 0 ∷ test_kind 0 kind_list 21 ∷ test_length 0 3 21
    ∷ take_element 1 0 0 21 ∷ test_kind 1 kind_tuple 21 ∷ test_length 1 2 21 ∷ take_element 2 1 0 21
    ∷ take_element 3 1 1 21 ∷ load_constant 4 (list (more (word "a") (more (tuple (more (int (pos 1)) none)) none))) ∷ test_equal 4 3 21
    ∷ take_element 5 0 1 21 ∷ test_kind 5 kind_list 21 ∷ test_length 5 2 21 ∷ take_element 6 5 0 21 ∷ load_constant 7 (int (pos 2)) ∷ test_equal 7 6 21 ∷ take_element 8 5 1 21
    ∷ take_element 9 0 2 21 ∷ load_constant 10 (tuple (more (int (pos 3)) none)) ∷ test_equal 10 9 21
    ∷ end_with_match
    ∷ end_without_match ∷ []
constant_is_folded = refl

-- [{'_',[],[{message,[a,{{1,[]}},['$_',[b]],{tl,[c]}]}]}]: each tuple or list of constants is one constant, and a call is made
constant_expression_is_folded : code_of (record { dialect = for_calls; clauses = record { head = anything; conditions = no_exprs; body = and_expr (perform message (and_expr (list_of (and_expr (constant (word "a")) (and_expr (tuple_of (and_expr (constant (int (pos 1))) (and_expr (list_of no_exprs) no_exprs))) (and_expr (list_of (and_expr whole_list (and_expr (list_of (and_expr (constant (word "b")) no_exprs)) no_exprs))) (and_expr (call fn.tail (and_expr (list_of (and_expr (constant (word "c")) no_exprs)) no_exprs)) no_exprs))))) no_exprs)) no_exprs } ∷ [] }) ≡
    load_list 0
    ∷ load_constant 1 (word "a") ∷ load_constant 2 (tuple (more (int (pos 1)) (more (list none) none)))
    ∷ load_list 3 ∷ load_constant 4 (list (more (word "b") none)) ∷ build kind_list 3 (3 ∷ 4 ∷ [])
    ∷ load_constant 4 (list (more (word "c") none)) ∷ apply_function fn.tail 4 (4 ∷ []) gives_exit
    ∷ build kind_list 1 (1 ∷ 2 ∷ 3 ∷ 4 ∷ []) ∷ perform_action for_calls message 1 (1 ∷ [])
    ∷ end_with_match
    ∷ end_without_match ∷ []
constant_expression_is_folded = refl

-- [{'$1',[{'orelse',{is_list,'$1'},true}],[{message,'$$'}]}]: the test that is true jumps past the others
first_that_is_true : code_of (record { dialect = for_sends; clauses = record { head = variable 1; conditions = and_expr (or_else (and_expr (call fn.is_list (and_expr (bound_to 1) no_exprs)) (and_expr (constant (truth true)) no_exprs))) no_exprs; body = and_expr (perform message (and_expr all_bound no_exprs)) no_exprs } ∷ [] }) ≡
    load_list 0
    ∷ load_constant 1 (truth true)
    ∷ apply_function fn.is_list 2 (0 ∷ []) (goes_on_at 16) ∷ load_constant 3 (truth true) ∷ test_equal 2 3 6 ∷ jump 11
    ∷ load_constant 2 (truth true) ∷ load_constant 3 (truth true) ∷ test_equal 2 3 10 ∷ jump 11
    ∷ load_constant 1 (truth false)
    ∷ load_constant 2 (truth true) ∷ test_equal 1 2 16
    ∷ build kind_list 1 (0 ∷ []) ∷ perform_action for_sends message 1 (1 ∷ []) ∷ end_with_match
    ∷ end_without_match ∷ []
first_that_is_true = refl

-- [{'_',[],[{message,{trace,[],['$_']}},{trace,{self},[],[]}]}]: the own pid stands before the two lists, loaded or computed
abbrev tracing : Spec
tracing = record {
  dialect = for_calls;
  clauses =
      record {
        head = anything;
        conditions = no_exprs;
        body =
            and_expr (perform message (and_expr (perform trace (and_expr (list_of no_exprs) (and_expr (list_of (and_expr whole_list no_exprs)) no_exprs))) no_exprs))
            (and_expr (perform trace (and_expr (call fn.own_pid no_exprs) (and_expr (list_of no_exprs) (and_expr (list_of no_exprs) no_exprs)))) no_exprs);
      }
      ∷ [];
}

flags_by_three_registers : code_of tracing ≡
    load_list 0
    ∷ load_own_pid 1 ∷ load_constant 2 (list none) ∷ load_list 3 ∷ build kind_list 3 (3 ∷ []) ∷ change_flags 1 1 2 3 gives_exit ∷ perform_action for_calls message 1 (1 ∷ [])
    ∷ apply_function fn.own_pid 2 [] gives_exit ∷ load_constant 3 (list none) ∷ load_constant 4 (list none) ∷ change_flags 2 2 3 4 gives_exit
    ∷ end_with_match
    ∷ end_without_match ∷ []
flags_by_three_registers = refl

tracing_is_checked : is_checked (code_of tracing) ≡ true
tracing_is_checked = refl

-- code may go on elsewhere at a fault
fault_elsewhere : is_checked (load_list 0 ∷ change_flags 1 0 0 0 (goes_on_at 3) ∷ end_with_match ∷ end_without_match ∷ []) ≡ true
fault_elsewhere = refl

-- ---- what the test refuses

no_instruction : is_checked [] ≡ false
no_instruction = refl

backward_jump : is_checked (load_list 0 ∷ jump 0 ∷ end_without_match ∷ []) ≡ false
backward_jump = refl

jump_past_the_end : is_checked (jump 2 ∷ end_without_match ∷ []) ≡ false
jump_past_the_end = refl

no_end : is_checked (load_list 0 ∷ []) ≡ false
no_end = refl

read_before_a_set : is_checked (build kind_list 1 (0 ∷ []) ∷ end_without_match ∷ []) ≡ false
read_before_a_set = refl

-- one path goes round the setter
read_where_a_path_sets_nothing : is_checked (load_list 0 ∷ test_kind 0 kind_list 3 ∷ load_list 1 ∷ build kind_list 2 (1 ∷ []) ∷ end_without_match ∷ []) ≡ false
read_where_a_path_sets_nothing = refl

wrong_number_of_registers : is_checked (load_list 0 ∷ apply_function fn.head 1 (0 ∷ 0 ∷ []) gives_exit ∷ end_without_match ∷ []) ≡ false
wrong_number_of_registers = refl

backward_fault : is_checked (load_list 0 ∷ change_flags 1 0 0 0 (goes_on_at 1) ∷ end_without_match ∷ []) ≡ false
backward_fault = refl

change_reads_three : is_checked (load_list 0 ∷ change_flags 1 0 0 2 gives_exit ∷ end_without_match ∷ []) ≡ false
change_reads_three = refl

-- `trace` has an instruction of its own
trace_as_an_action : is_checked (load_list 0 ∷ perform_action for_calls trace 1 (0 ∷ 0 ∷ 0 ∷ []) ∷ end_without_match ∷ []) ≡ false
trace_as_an_action = refl
