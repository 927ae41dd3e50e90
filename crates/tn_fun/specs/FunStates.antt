-- How far the code has read a fun, and what of the definition that stands for.
use Rattle.std.specs.Prelude.{◌≡◌, ℕ, List, [], ◌∷◌, Bool, true, false, ◌&&◌, Option, Some, None, Result, Ok, Err}
use Rattle.def_text.specs.Faults.{FaultKind}
use Rattle.def_fun.specs.Limits.{spec_clauses}
use Rattle.def_fun.specs.Tokens as token
use Rattle.def_fun.specs.Tokens.{FunToken}
use Rattle.def_fun.specs.Trees.{FunExpr, is_variable_expr}
use Rattle.def_fun.specs.Reading as reading
use Rattle.def_fun.specs.Reading.{OpenPart, in_open_parens, in_open_call, in_open_list, in_open_tail, in_open_tuple, after_left, after_prefix, wants, has}
use Rattle.tn_fun.specs.Trees.{fun_row_seen}
use Rattle.tn_fun.specs.States.{expr_state_seen, AreCounted, IsStepErrorOf}
use Rattle.tn_fun.specs.Clauses.{fun_head_seen, guards_seen, fun_clauses_seen, first_seen}
use Rattle.tn_fun.specs.declared.part.StepError.{StepError}
use Rattle.tn_fun.specs.declared.fun_state.Earlier.{Earlier}
use Rattle.tn_fun.specs.declared.fun_state.ClauseSoFar.{ClauseSoFar}
use Rattle.tn_fun.specs.declared.fun_state.FunState.{FunState}
use Rattle.tn_fun.specs.declared.fun_state.FunState.TheVariants as states

-- ---- where an expression may end

-- an operator waits for its operand
abbrev pub waits_for_operand : OpenPart → Bool
waits_for_operand (in_open_parens at) = false
waits_for_operand (in_open_call at s es) = false
waits_for_operand (in_open_list at es) = false
waits_for_operand (in_open_tail at es) = false
waits_for_operand (in_open_tuple at es) = false
waits_for_operand (after_left at o e) = true
waits_for_operand (after_prefix at o) = true

-- no bracket is open
abbrev pub wait_for_operands : List OpenPart → Bool
wait_for_operands [] = true
wait_for_operands (f ∷ fs) = waits_for_operand f && wait_for_operands fs

-- nothing of an expression is read yet
abbrev pub is_expr_start : reading.ExprState → Bool
is_expr_start (wants []) = true
is_expr_start (wants (f ∷ fs)) = false
is_expr_start (has e fs) = false

-- ---- tokens with which a part may begin or end

-- a list may be the next part of a head
abbrev pub list_may_be : Option FunExpr → Bool
list_may_be None = true
list_may_be (Some a) = is_variable_expr a

-- a head, or its part before `=`
abbrev pub ends_head : Option FunExpr → FunToken → Bool
ends_head a token.close_paren = true
ends_head None token.match = true
ends_head a t = false

-- a condition
abbrev pub ends_condition : FunToken → Bool
ends_condition token.comma = true
ends_condition token.semicolon = true
ends_condition token.arrow = true
ends_condition t = false

-- an expression of a body
abbrev pub ends_body_expr : FunToken → Bool
ends_body_expr token.comma = true
ends_body_expr token.semicolon = true
ends_body_expr token.end_word = true
ends_body_expr t = false

-- ---- states

abbrev pub clause_so_far_seen : {A : Type 0} → List ℕ → ClauseSoFar A → reading.ClauseSoFar
clause_so_far_seen text c = record { earlier = fun_clauses_seen text c.earlier.clauses.items; at = c.at; head = fun_head_seen text c.head; guards = guards_seen text c.guards.items }

abbrev pub fun_state_seen : {A : Type 0} → List ℕ → FunState A → reading.FunState
fun_state_seen text states.BeforeFun = reading.before_fun
fun_state_seen text (states.BeforeClause e) = reading.before_clause (fun_clauses_seen text e.clauses.items)
fun_state_seen text (states.InHead h s) = reading.in_head (fun_clauses_seen text h.earlier.clauses.items) h.at (first_seen text h.first) (expr_state_seen text s)
fun_state_seen text (states.AfterHead c) = reading.after_head (clause_so_far_seen text c)
fun_state_seen text (states.InGuard c es s) = reading.in_guard (clause_so_far_seen text c) (fun_row_seen text es.items) (expr_state_seen text s)
fun_state_seen text (states.InBody c es s) = reading.in_fun_body (clause_so_far_seen text c) (fun_row_seen text es.items) (expr_state_seen text s)
fun_state_seen text (states.AfterEnd ks) = reading.after_end (fun_clauses_seen text ks.items)
fun_state_seen text (states.AfterStop ks) = reading.after_stop (fun_clauses_seen text ks.items)

-- the count of the clauses before
abbrev pub IsCountOf : {A : Type 0} → List ℕ → Earlier A → Type 0
IsCountOf text e = e.count ≡ spec_clauses (fun_clauses_seen text e.clauses.items)

-- clauses are counted, and so are strings
abbrev pub IsCountedState : {A : Type 0} → List ℕ → FunState A → Type 0
IsCountedState text states.BeforeFun = Unit {0}
IsCountedState text (states.BeforeClause e) = IsCountOf text e
IsCountedState text (states.InHead h s) = IsCountOf text h.earlier × AreCounted text s
IsCountedState text (states.AfterHead c) = IsCountOf text c.earlier
IsCountedState text (states.InGuard c es s) = IsCountOf text c.earlier × AreCounted text s
IsCountedState text (states.InBody c es s) = IsCountOf text c.earlier × AreCounted text s
IsCountedState text (states.AfterEnd ks) = Unit {0}
IsCountedState text (states.AfterStop ks) = Unit {0}

-- the step that the definition takes
abbrev pub StepsFun : {A : Type 0} → List ℕ → Result (FunState A) StepError → Result reading.FunState FaultKind → Type 0
StepsFun text (Ok s) r = (r ≡ Ok (fun_state_seen text s)) × IsCountedState text s
StepsFun text (Err e) r = IsStepErrorOf e r
