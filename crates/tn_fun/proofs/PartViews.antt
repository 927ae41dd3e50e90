-- The parts that are open, as a vector whose last is the innermost.
use Rattle.std.proofs.Common.{◌≡◌, ℕ, ◌+◌, ◌<◌, ◌≤◌, List, [], ◌∷◌, ◌++◌, length, refl, ap, sym, ◌∙◌, arith, Bool, true, false, nat_lt, Ok, Err}
use Rattle.std.proofs.lemmas.Bool.{le-ltb, lt-ltb}
use Rattle.def_text.specs.Faults.{too_deep}
use Rattle.def_fun.specs.Limits.{FUN_DEPTH}
use Rattle.def_fun.specs.Operators as op
use Rattle.def_fun.specs.Operators.{FunOperator}
use Rattle.def_fun.specs.Tokens as token
use Rattle.def_fun.specs.Reading as reading
use Rattle.def_fun.specs.Reading.{OpenPart, in_open_parens, in_open_call, in_open_list, in_open_tail, in_open_tuple, after_left, after_prefix, wants, if_placed, operand_at, has_level_left, greatest_there, may_stand}
use Rattle.tn_fun.specs.declared.part.Part.{Part}
use Rattle.tn_fun.specs.States.{open_part_seen, open_parts_onto, open_parts_seen, precedes}

onto_push : {A : Type 0} (text : List ℕ) (vs : List (Part A)) (v : Part A) (stack : List OpenPart) → open_parts_onto text (vs ++ v ∷ []) stack ≡ open_part_seen text v ∷ open_parts_onto text vs stack
onto_push text [] v stack = refl
onto_push text (x ∷ vs) v stack = onto_push text vs v (open_part_seen text x ∷ stack)

-- of a vector that is another with one more at its end
pub parts_push : {A : Type 0} (text : List ℕ) (all vs : List (Part A)) (v : Part A) → all ≡ vs ++ v ∷ [] → open_parts_seen text all ≡ open_part_seen text v ∷ open_parts_seen text vs
parts_push text all vs v e = ap (open_parts_seen text) e ∙ onto_push text vs v []

onto_length : {A : Type 0} (text : List ℕ) (vs : List (Part A)) (stack : List OpenPart) → length (open_parts_onto text vs stack) ≡ length vs + length stack
onto_length text [] stack = omega arith
onto_length text (v ∷ vs) stack = omega (arith, onto_length text vs (open_part_seen text v ∷ stack))

pub parts_length : {A : Type 0} (text : List ℕ) (vs : List (Part A)) → length (open_parts_seen text vs) ≡ length vs
parts_length text vs = omega (arith, onto_length text vs [])

-- ---- one more part

open_by : (placed d : Bool) (s : reading.ExprState) → placed ≡ true → d ≡ true → if_placed placed d true s ≡ Ok s
open_by placed d s p q = ap (λ b. if_placed b d true s) p ∙ ap (λ b. if_placed true b true s) q

deep_by : (placed d : Bool) (s : reading.ExprState) → placed ≡ true → d ≡ false → if_placed placed d true s ≡ Err too_deep
deep_by placed d s p q = ap (λ b. if_placed b d true s) p ∙ ap (λ b. if_placed true b true s) q

module _ {A : Type 0} (text : List ℕ) (p : Part A) (vs : List (Part A)) where
  pub too_many_parts : (placed : Bool) → placed ≡ true → FUN_DEPTH ≤ length vs
      → if_placed placed (nat_lt (length (open_parts_seen text vs)) FUN_DEPTH) true (wants (open_part_seen text p ∷ open_parts_seen text vs)) ≡ Err too_deep
  too_many_parts placed is many = deep_by placed _ _ is (le-ltb (length (open_parts_seen text vs)) FUN_DEPTH (omega (arith, many, parts_length text vs)))

  pub part_opens : (back : List (Part A)) (placed : Bool) → placed ≡ true → length vs < FUN_DEPTH → back ≡ vs ++ p ∷ []
      → if_placed placed (nat_lt (length (open_parts_seen text vs)) FUN_DEPTH) true (wants (open_part_seen text p ∷ open_parts_seen text vs)) ≡ Ok (wants (open_parts_seen text back))
  part_opens back placed is few e =
      open_by placed _ _ is (lt-ltb (length (open_parts_seen text vs)) FUN_DEPTH (omega (arith, few, parts_length text vs))) ∙ ap (λ fs. Ok (wants fs)) (sym (parts_push text back vs p e))

-- ---- an operator where an operand must come

module _ (pattern : Bool) (limit : ℕ) (sized : Bool) (fs : List OpenPart) (at : ℕ) where
  pub operator_there : (o : FunOperator) → operand_at pattern limit sized fs at (token.operator o) ≡ if_placed (precedes pattern o fs) (has_level_left pattern limit sized fs) true (wants (after_prefix at o ∷ fs))
  operator_there op.or_else = refl
  operator_there op.and_also = refl
  operator_there op.equal = refl
  operator_there op.not_equal = refl
  operator_there op.less_or_equal = refl
  operator_there op.less = refl
  operator_there op.greater_or_equal = refl
  operator_there op.greater = refl
  operator_there op.exactly_equal = refl
  operator_there op.exactly_not_equal = refl
  operator_there op.plus = refl
  operator_there op.minus = refl
  operator_there op.bit_or = refl
  operator_there op.bit_xor = refl
  operator_there op.one_of = refl
  operator_there op.just_one_of = refl
  operator_there op.times = refl
  operator_there op.divide = refl
  operator_there op.remainder = refl
  operator_there op.bit_and = refl
  operator_there op.all_of = refl
  operator_there op.bit_not = refl
  operator_there op.negation = refl
