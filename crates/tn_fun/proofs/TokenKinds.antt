-- Tokens by their kind.
use Rattle.std.proofs.Common.{◌≡◌, ℕ, ◌-◌, ◌<◌, ◌≤◌, List, [], ◌∷◌, length, take, drop, refl, ap, sym, ◌∙◌, subst, arith, Bool, true, false, ◌&&◌, nat_le, if◌then◌else◌, Option, Some, None, Result, Err, length-take, length-drop}
use Rattle.std.proofs.lemmas.Bool.{le-leb}
use Rattle.def_text.specs.Faults.{misplaced}
use Rattle.def_fun.specs.Limits.{FUN_DEPTH}
use Rattle.def_fun.specs.Trees.{FunExpr}
use Rattle.def_fun.specs.Operators as op
use Rattle.def_fun.specs.Reading.{OpenPart, in_open_parens, in_open_call, in_open_list, in_open_tail, in_open_tuple, after_left, after_prefix, has, if_placed, greatest_there, operand_at, after_operand}
use Rattle.tn_fun.specs.declared.operator.Operator.{Operator}
use Rattle.tn_fun.specs.declared.token.Kind.{Kind}
use Rattle.tn_fun.specs.declared.token.Kind.TheVariants as kinds
use Rattle.tn_fun.specs.declared.tree.Expr.{Expr}
use Rattle.tn_fun.specs.declared.part.ExprState.{ExprState}
use Rattle.tn_fun.specs.declared.part.StepError.{StepError}
use Rattle.tn_fun.specs.Sizes.{if_at_most}
use Rattle.tn_fun.specs.Tokens.{fun_token_seen}
use Rattle.tn_fun.specs.Trees.{fun_expr_seen}
use Rattle.tn_fun.specs.States.{are_strings, is_string_kind, is_string_again, StepsExpr}
use Rattle.tn_fun.proofs.Operands.{no_strings_there}

no_string : (b : Bool) → (b && false) ≡ false
no_string true = refl
no_string false = refl

-- no strings came
pub none_again : (k : Kind) (e : FunExpr) → are_strings e ≡ false → is_string_again k e ≡ false
none_again k e is = ap (λ b. is_string_kind k && b) is ∙ no_string (is_string_kind k)

other_kind : (k : Kind) → (k ≡ kinds.Characters → ⊥) → is_string_kind k ≡ false
other_kind kinds.OpenParen other = refl
other_kind kinds.CloseParen other = refl
other_kind kinds.OpenBracket other = refl
other_kind kinds.CloseBracket other = refl
other_kind kinds.OpenBrace other = refl
other_kind kinds.CloseBrace other = refl
other_kind kinds.Comma other = refl
other_kind kinds.Semicolon other = refl
other_kind kinds.Bar other = refl
other_kind kinds.Arrow other = refl
other_kind kinds.Match other = refl
other_kind kinds.Fun other = refl
other_kind kinds.When other = refl
other_kind kinds.End other = refl
other_kind kinds.FullStop other = refl
other_kind (kinds.Operator o) other = refl
other_kind kinds.Digits other = refl
other_kind (kinds.Character b) other = refl
other_kind kinds.Bare other = refl
other_kind kinds.Quoted other = refl
other_kind kinds.Characters other = absurd (other refl)
other_kind kinds.Variable other = refl
other_kind kinds.LeftOut other = refl
other_kind kinds.Float other = refl
other_kind kinds.OtherNumber other = refl
other_kind kinds.Bad other = refl

-- and none comes
pub no_string_comes : (k : Kind) (e : FunExpr) → (k ≡ kinds.Characters → ⊥) → is_string_again k e ≡ false
no_string_comes k e other = ap (λ b. b && are_strings e) (other_kind k other)

module _ (pattern : Bool) (e : FunExpr) (fs : List OpenPart) (at : ℕ) (u bytes : List ℕ) where
  -- a token that is of none of these kinds
  pub nothing_follows : (k : Kind) → ((o : Operator) → k ≡ kinds.Operator o → ⊥) → (k ≡ kinds.OpenParen → ⊥) → (k ≡ kinds.CloseParen → ⊥) → (k ≡ kinds.CloseBracket → ⊥) → (k ≡ kinds.CloseBrace → ⊥) → (k ≡ kinds.Comma → ⊥) → (k ≡ kinds.Bar → ⊥) → is_string_again k e ≡ false → after_operand pattern FUN_DEPTH true e fs at (fun_token_seen k u bytes) ≡ Err misplaced
  nothing_follows kinds.OpenParen other0 other1 other2 other3 other4 other5 other6 is = absurd (other1 refl)
  nothing_follows kinds.CloseParen other0 other1 other2 other3 other4 other5 other6 is = absurd (other2 refl)
  nothing_follows kinds.OpenBracket other0 other1 other2 other3 other4 other5 other6 is = refl
  nothing_follows kinds.CloseBracket other0 other1 other2 other3 other4 other5 other6 is = absurd (other3 refl)
  nothing_follows kinds.OpenBrace other0 other1 other2 other3 other4 other5 other6 is = refl
  nothing_follows kinds.CloseBrace other0 other1 other2 other3 other4 other5 other6 is = absurd (other4 refl)
  nothing_follows kinds.Comma other0 other1 other2 other3 other4 other5 other6 is = absurd (other5 refl)
  nothing_follows kinds.Semicolon other0 other1 other2 other3 other4 other5 other6 is = refl
  nothing_follows kinds.Bar other0 other1 other2 other3 other4 other5 other6 is = absurd (other6 refl)
  nothing_follows kinds.Arrow other0 other1 other2 other3 other4 other5 other6 is = refl
  nothing_follows kinds.Match other0 other1 other2 other3 other4 other5 other6 is = refl
  nothing_follows kinds.Fun other0 other1 other2 other3 other4 other5 other6 is = refl
  nothing_follows kinds.When other0 other1 other2 other3 other4 other5 other6 is = refl
  nothing_follows kinds.End other0 other1 other2 other3 other4 other5 other6 is = refl
  nothing_follows kinds.FullStop other0 other1 other2 other3 other4 other5 other6 is = refl
  nothing_follows (kinds.Operator o) other0 other1 other2 other3 other4 other5 other6 is = absurd (other0 o refl)
  nothing_follows kinds.Digits other0 other1 other2 other3 other4 other5 other6 is = refl
  nothing_follows (kinds.Character b) other0 other1 other2 other3 other4 other5 other6 is = refl
  nothing_follows kinds.Bare other0 other1 other2 other3 other4 other5 other6 is = refl
  nothing_follows kinds.Quoted other0 other1 other2 other3 other4 other5 other6 is = refl
  nothing_follows kinds.Characters other0 other1 other2 other3 other4 other5 other6 is = no_strings_there pattern fs e at _ is
  nothing_follows kinds.Variable other0 other1 other2 other3 other4 other5 other6 is = refl
  nothing_follows kinds.LeftOut other0 other1 other2 other3 other4 other5 other6 is = refl
  nothing_follows kinds.Float other0 other1 other2 other3 other4 other5 other6 is = refl
  nothing_follows kinds.OtherNumber other0 other1 other2 other3 other4 other5 other6 is = refl
  nothing_follows kinds.Bad other0 other1 other2 other3 other4 other5 other6 is = refl

module _ (pattern : Bool) (fs : List OpenPart) (at : ℕ) (u bytes : List ℕ) where
  -- a token that is of none of these kinds
  pub no_operand : (k : Kind) → (k ≡ kinds.Variable → ⊥) → (k ≡ kinds.Bare → ⊥) → (k ≡ kinds.Quoted → ⊥) → (k ≡ kinds.Characters → ⊥) → (k ≡ kinds.Digits → ⊥) → ((b : ℕ) → k ≡ kinds.Character b → ⊥) → ((o : Operator) → k ≡ kinds.Operator o → ⊥) → (k ≡ kinds.OpenParen → ⊥) → (k ≡ kinds.OpenBracket → ⊥) → (k ≡ kinds.OpenBrace → ⊥) → (k ≡ kinds.CloseBracket → ⊥) → (k ≡ kinds.CloseBrace → ⊥) → (k ≡ kinds.CloseParen → ⊥) → operand_at pattern FUN_DEPTH true fs at (fun_token_seen k u bytes) ≡ Err misplaced
  no_operand kinds.OpenParen other0 other1 other2 other3 other4 other5 other6 other7 other8 other9 other10 other11 other12 = absurd (other7 refl)
  no_operand kinds.CloseParen other0 other1 other2 other3 other4 other5 other6 other7 other8 other9 other10 other11 other12 = absurd (other12 refl)
  no_operand kinds.OpenBracket other0 other1 other2 other3 other4 other5 other6 other7 other8 other9 other10 other11 other12 = absurd (other8 refl)
  no_operand kinds.CloseBracket other0 other1 other2 other3 other4 other5 other6 other7 other8 other9 other10 other11 other12 = absurd (other10 refl)
  no_operand kinds.OpenBrace other0 other1 other2 other3 other4 other5 other6 other7 other8 other9 other10 other11 other12 = absurd (other9 refl)
  no_operand kinds.CloseBrace other0 other1 other2 other3 other4 other5 other6 other7 other8 other9 other10 other11 other12 = absurd (other11 refl)
  no_operand kinds.Comma other0 other1 other2 other3 other4 other5 other6 other7 other8 other9 other10 other11 other12 = refl
  no_operand kinds.Semicolon other0 other1 other2 other3 other4 other5 other6 other7 other8 other9 other10 other11 other12 = refl
  no_operand kinds.Bar other0 other1 other2 other3 other4 other5 other6 other7 other8 other9 other10 other11 other12 = refl
  no_operand kinds.Arrow other0 other1 other2 other3 other4 other5 other6 other7 other8 other9 other10 other11 other12 = refl
  no_operand kinds.Match other0 other1 other2 other3 other4 other5 other6 other7 other8 other9 other10 other11 other12 = refl
  no_operand kinds.Fun other0 other1 other2 other3 other4 other5 other6 other7 other8 other9 other10 other11 other12 = refl
  no_operand kinds.When other0 other1 other2 other3 other4 other5 other6 other7 other8 other9 other10 other11 other12 = refl
  no_operand kinds.End other0 other1 other2 other3 other4 other5 other6 other7 other8 other9 other10 other11 other12 = refl
  no_operand kinds.FullStop other0 other1 other2 other3 other4 other5 other6 other7 other8 other9 other10 other11 other12 = refl
  no_operand (kinds.Operator o) other0 other1 other2 other3 other4 other5 other6 other7 other8 other9 other10 other11 other12 = absurd (other6 o refl)
  no_operand kinds.Digits other0 other1 other2 other3 other4 other5 other6 other7 other8 other9 other10 other11 other12 = absurd (other4 refl)
  no_operand (kinds.Character b) other0 other1 other2 other3 other4 other5 other6 other7 other8 other9 other10 other11 other12 = absurd (other5 b refl)
  no_operand kinds.Bare other0 other1 other2 other3 other4 other5 other6 other7 other8 other9 other10 other11 other12 = absurd (other1 refl)
  no_operand kinds.Quoted other0 other1 other2 other3 other4 other5 other6 other7 other8 other9 other10 other11 other12 = absurd (other2 refl)
  no_operand kinds.Characters other0 other1 other2 other3 other4 other5 other6 other7 other8 other9 other10 other11 other12 = absurd (other3 refl)
  no_operand kinds.Variable other0 other1 other2 other3 other4 other5 other6 other7 other8 other9 other10 other11 other12 = absurd (other0 refl)
  no_operand kinds.LeftOut other0 other1 other2 other3 other4 other5 other6 other7 other8 other9 other10 other11 other12 = refl
  no_operand kinds.Float other0 other1 other2 other3 other4 other5 other6 other7 other8 other9 other10 other11 other12 = refl
  no_operand kinds.OtherNumber other0 other1 other2 other3 other4 other5 other6 other7 other8 other9 other10 other11 other12 = refl
  no_operand kinds.Bad other0 other1 other2 other3 other4 other5 other6 other7 other8 other9 other10 other11 other12 = refl

-- ---- operands of one token

pub name_there : {A : Type 0} (text : List ℕ) (r : Result (ExprState A) StepError) (x : Expr A) (made : FunExpr) (placed there : Bool) (n m most : ℕ) (fs : List OpenPart)
    → (are_strings (fun_expr_seen text x) ≡ false → StepsExpr text r (if_placed placed true (nat_le n most) (has (fun_expr_seen text x) fs)))
    → fun_expr_seen text x ≡ made → are_strings made ≡ false → placed ≡ there → n ≡ m → StepsExpr text r (if_placed there true (nat_le m most) (has made fs))
name_there text r x made placed there n m most fs put is none p size =
    subst (λ e. StepsExpr text r (if_placed there true (nat_le m most) (has e fs))) is
    (subst (λ b. StepsExpr text r (if_placed b true (nat_le m most) (has (fun_expr_seen text x) fs))) p
    (subst (λ k. StepsExpr text r (if_placed placed true (nat_le k most) (has (fun_expr_seen text x) fs))) size (put (ap are_strings is ∙ none))))

pub token_length : (text : List ℕ) (from to : ℕ) → from ≤ to → to ≤ length text → to - from ≡ length (take (to - from) (drop from text))
token_length text from to start end = omega (arith, start, end, length-take (to - from) (drop from text), length-drop from text)

abbrev if_true : Bool → ℕ → Option ℕ
if_true b n = if b then Some n else None

some_by : (b : Bool) (n : ℕ) → b ≡ true → if_true b n ≡ Some n
some_by true n is = refl
some_by false n is = absurd (let same : false ≡ true = is in cc)

pub at_most : (n most : ℕ) → n ≤ most → Some n ≡ if_at_most most n
at_most n most h = sym (some_by (nat_le n most) n (le-leb n most h))

greatest_is : (fs : List OpenPart) → 9223372036854775807 ≤ greatest_there fs
greatest_is [] = omega arith
greatest_is (in_open_parens at ∷ fs) = omega arith
greatest_is (in_open_call at s es ∷ fs) = omega arith
greatest_is (in_open_list at es ∷ fs) = omega arith
greatest_is (in_open_tail at es ∷ fs) = omega arith
greatest_is (in_open_tuple at es ∷ fs) = omega arith
greatest_is (after_left at o l ∷ fs) = omega arith
greatest_is (after_prefix at op.or_else ∷ fs) = omega arith
greatest_is (after_prefix at op.and_also ∷ fs) = omega arith
greatest_is (after_prefix at op.equal ∷ fs) = omega arith
greatest_is (after_prefix at op.not_equal ∷ fs) = omega arith
greatest_is (after_prefix at op.less_or_equal ∷ fs) = omega arith
greatest_is (after_prefix at op.less ∷ fs) = omega arith
greatest_is (after_prefix at op.greater_or_equal ∷ fs) = omega arith
greatest_is (after_prefix at op.greater ∷ fs) = omega arith
greatest_is (after_prefix at op.exactly_equal ∷ fs) = omega arith
greatest_is (after_prefix at op.exactly_not_equal ∷ fs) = omega arith
greatest_is (after_prefix at op.plus ∷ fs) = omega arith
greatest_is (after_prefix at op.minus ∷ fs) = omega arith
greatest_is (after_prefix at op.bit_or ∷ fs) = omega arith
greatest_is (after_prefix at op.bit_xor ∷ fs) = omega arith
greatest_is (after_prefix at op.one_of ∷ fs) = omega arith
greatest_is (after_prefix at op.just_one_of ∷ fs) = omega arith
greatest_is (after_prefix at op.times ∷ fs) = omega arith
greatest_is (after_prefix at op.divide ∷ fs) = omega arith
greatest_is (after_prefix at op.remainder ∷ fs) = omega arith
greatest_is (after_prefix at op.bit_and ∷ fs) = omega arith
greatest_is (after_prefix at op.all_of ∷ fs) = omega arith
greatest_is (after_prefix at op.bit_not ∷ fs) = omega arith
greatest_is (after_prefix at op.negation ∷ fs) = omega arith

-- the code of a character
pub small_there : (n : ℕ) (fs : List OpenPart) → n < 256 → Some n ≡ if_at_most (greatest_there fs) n
small_there n fs h = at_most n (greatest_there fs) (omega (arith, h, greatest_is fs))
