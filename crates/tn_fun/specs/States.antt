-- How far the code has read, and what of the definition that stands for.
use Rattle.std.specs.Prelude.{◌≡◌, ℕ, ◌+◌, ◌-◌, List, [], ◌∷◌, length, map, take, drop, Bool, true, false, not, ◌&&◌, nat_lt, Option, Some, None, Result, Ok, Err}
use Rattle.def_text.specs.Faults.{FaultKind, misplaced, too_deep, too_large}
use Rattle.def_term.specs.Names.{Name}
use Rattle.def_fun.specs.Limits.{FUN_DEPTH}
use Rattle.def_fun.specs.Operators as op
use Rattle.def_fun.specs.Operators.{FunOperator, is_prefix}
use Rattle.def_fun.specs.Tokens.{FunToken}
use Rattle.def_fun.specs.Trees as tree
use Rattle.def_fun.specs.Trees.{FunExpr, joined_codes}
use Rattle.def_fun.specs.Reading as reading
use Rattle.def_fun.specs.Reading.{OpenPart, in_open_parens, in_open_call, in_open_list, in_open_tail, in_open_tuple, after_left, after_prefix, wants, has, may_stand, may_follow, if_placed, gather}
use Rattle.tn_fun.specs.Tokens.{operator_seen, fun_token_seen}
use Rattle.tn_fun.specs.Trees.{token_name, string_codes, fun_expr_seen, fun_row_seen}
use Rattle.tn_fun.specs.declared.token.Kind.{Kind}
use Rattle.tn_fun.specs.declared.token.Kind.TheVariants as kinds
use Rattle.tn_fun.specs.declared.token.Token.{Token}
use Rattle.tn_fun.specs.declared.gather.Combination.{Combination}
use Rattle.tn_fun.specs.declared.gather.Combination.TheVariants as combinations
use Rattle.tn_fun.specs.declared.tree.Expr.{Expr}
use Rattle.tn_fun.specs.declared.part.Part.{Part}
use Rattle.tn_fun.specs.declared.part.Part.TheVariants as parts
use Rattle.tn_fun.specs.declared.part.ExprState.{ExprState}
use Rattle.tn_fun.specs.declared.part.ExprState.TheVariants as states
use Rattle.tn_fun.specs.declared.part.StepError.{StepError}
use Rattle.tn_fun.specs.declared.part.StepError.TheVariants as errors

-- a token of the text
abbrev pub token_there : List ℕ → Token → FunToken
token_there text v = fun_token_seen v.kind (take (v.to - v.from) (drop v.from text)) (drop v.from text)

abbrev pub open_part_seen : {A : Type 0} → List ℕ → Part A → OpenPart
open_part_seen text (parts.Parens at) = in_open_parens at
open_part_seen text (parts.Call v es) = in_open_call v.from (token_name text v) (fun_row_seen text es.items)
open_part_seen text (parts.List at es) = in_open_list at (fun_row_seen text es.items)
open_part_seen text (parts.Tail at es) = in_open_tail at (fun_row_seen text es.items)
open_part_seen text (parts.Tuple at es) = in_open_tuple at (fun_row_seen text es.items)
open_part_seen text (parts.Left at o e) = after_left at (operator_seen o) (fun_expr_seen text e)
open_part_seen text (parts.Prefix at o) = after_prefix at (operator_seen o)

-- the innermost is the last of the vector, and the first of the stack
abbrev pub open_parts_onto : {A : Type 0} → List ℕ → List (Part A) → List OpenPart → List OpenPart
open_parts_onto text [] stack = stack
open_parts_onto text (v ∷ vs) stack = open_parts_onto text vs (open_part_seen text v ∷ stack)

abbrev pub open_parts_seen : {A : Type 0} → List ℕ → List (Part A) → List OpenPart
open_parts_seen text vs = open_parts_onto text vs []

abbrev pub expr_state_seen : {A : Type 0} → List ℕ → ExprState A → reading.ExprState
expr_state_seen text (states.Wants fs) = wants (open_parts_seen text fs.items)
expr_state_seen text (states.Has e fs) = has (fun_expr_seen text e) (open_parts_seen text fs.items)
expr_state_seen text (states.HasStrings v vs n fs) = has (tree.strings v.from (string_codes text v) (map (string_codes text) vs.items)) (open_parts_seen text fs.items)

-- the prefix that is the innermost
abbrev pub prefix_in_front : List OpenPart → Option FunOperator
prefix_in_front (after_prefix at o ∷ fs) = Some o
prefix_in_front fs = None

-- the operator after a left operand that is the innermost
abbrev pub left_in_front : List OpenPart → Option FunOperator
left_in_front (after_left at o e ∷ fs) = Some o
left_in_front fs = None

-- an operator may be before an operand
abbrev pub precedes : Bool → FunOperator → List OpenPart → Bool
precedes pattern op.minus fs = may_stand pattern fs
precedes pattern o fs = is_prefix o && not pattern

-- strings beside each other
abbrev pub are_strings : FunExpr → Bool
are_strings (tree.strings at s ss) = true
are_strings e = false

-- a string comes
abbrev pub is_string_kind : Kind → Bool
is_string_kind kinds.Characters = true
is_string_kind kind = false

-- after strings
abbrev pub is_string_again : Kind → FunExpr → Bool
is_string_again kind e = is_string_kind kind && are_strings e

-- strings are counted, and any other operand is none
abbrev pub AreCounted : {A : Type 0} → List ℕ → ExprState A → Type 0
AreCounted text (states.Wants fs) = Unit {0}
AreCounted text (states.Has e fs) = are_strings (fun_expr_seen text e) ≡ false
AreCounted text (states.HasStrings v vs n fs) = n ≡ length (joined_codes (string_codes text v) (map (string_codes text) vs.items))

-- the refusal of a step; where memory ran out nothing is said
abbrev pub IsStepErrorOf : {S : Type 0} → StepError → Result S FaultKind → Type 0
IsStepErrorOf errors.OutOfMemory r = Unit {0}
IsStepErrorOf errors.Misplaced r = r ≡ Err misplaced
IsStepErrorOf errors.TooDeep r = r ≡ Err too_deep
IsStepErrorOf errors.TooLarge r = r ≡ Err too_large

-- the step that the definition takes
abbrev pub StepsExpr : {A : Type 0} → List ℕ → Result (ExprState A) StepError → Result reading.ExprState FaultKind → Type 0
StepsExpr text (Ok s) r = (r ≡ Ok (expr_state_seen text s)) × AreCounted text s
StepsExpr text (Err e) r = IsStepErrorOf e r

-- gathering goes on with what is taken, or the part takes nothing
abbrev pub CombinesOperand : {A : Type 0} → List ℕ → ℕ → Combination A → Part A → Expr A → List OpenPart → Type 0
CombinesOperand text level (combinations.Whole e) p operand fs = gather level (fun_expr_seen text operand) (open_part_seen text p ∷ fs) ≡ gather level (fun_expr_seen text e) fs
CombinesOperand text level (combinations.Apart q e) p operand fs = gather level (fun_expr_seen text operand) (open_part_seen text p ∷ fs) ≡ (fun_expr_seen text e, open_part_seen text q ∷ fs)

-- the step adds an element to the part before these
abbrev pub AddsElement : {A : Type 0} → List ℕ → Result (Part A) StepError → Result reading.ExprState FaultKind → List OpenPart → Type 0
AddsElement text (Ok p) r fs = r ≡ Ok (wants (open_part_seen text p ∷ fs))
AddsElement text (Err e) r fs = IsStepErrorOf e r

-- the name of an atom, with its offset
abbrev pub atom_alone : FunExpr → Option (ℕ × Name)
atom_alone (tree.atom at s) = Some (at, s)
atom_alone e = None

-- an operator after its left operand, where it may follow and there is a level for it
abbrev pub opens_right : ℕ → FunOperator → FunExpr → List OpenPart → Result reading.ExprState FaultKind
opens_right at o e fs = if_placed (may_follow o fs) (nat_lt (length fs + tree.nesting_depth e) FUN_DEPTH) true (wants (after_left at o e ∷ fs))
