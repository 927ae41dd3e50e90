-- How the levels of operators are related.
use Rattle.std.proofs.Common.{◌≡◌, ◌⊎◌, ◌<◌, ◌≤◌, true, false, arith, inl, inr}
use Rattle.def_fun.specs.Operators as op
use Rattle.def_fun.specs.Operators.{FunOperator, operator_binding, level_of, left_level, right_level, is_infix}

-- an operand is of the operator's level, or binds more; where it may be of the same level, the level says on which side
pub record IsBounded (o : FunOperator) : Type 0 where
  pub left : level_of (operator_binding o) ≤ left_level (operator_binding o)
  pub right : level_of (operator_binding o) ≤ right_level (operator_binding o)
  pub most : is_infix o ≡ true → level_of (operator_binding o) ≤ 5
  pub on_right : (level_of (operator_binding o) < right_level (operator_binding o)) ⊎ ((level_of (operator_binding o) ≤ 2) ⊎ (6 ≤ right_level (operator_binding o)))
  pub on_left : (level_of (operator_binding o) < left_level (operator_binding o)) ⊎ (3 ≤ level_of (operator_binding o))

pub bounds : (o : FunOperator) → IsBounded o
bounds op.or_else = record { left = omega arith; right = omega arith; most = λ h. omega arith; on_right = inr (inl (omega arith)); on_left = inl (omega arith) }
bounds op.and_also = record { left = omega arith; right = omega arith; most = λ h. omega arith; on_right = inr (inl (omega arith)); on_left = inl (omega arith) }
bounds op.equal = record { left = omega arith; right = omega arith; most = λ h. omega arith; on_right = inl (omega arith); on_left = inl (omega arith) }
bounds op.not_equal = record { left = omega arith; right = omega arith; most = λ h. omega arith; on_right = inl (omega arith); on_left = inl (omega arith) }
bounds op.less_or_equal = record { left = omega arith; right = omega arith; most = λ h. omega arith; on_right = inl (omega arith); on_left = inl (omega arith) }
bounds op.less = record { left = omega arith; right = omega arith; most = λ h. omega arith; on_right = inl (omega arith); on_left = inl (omega arith) }
bounds op.greater_or_equal = record { left = omega arith; right = omega arith; most = λ h. omega arith; on_right = inl (omega arith); on_left = inl (omega arith) }
bounds op.greater = record { left = omega arith; right = omega arith; most = λ h. omega arith; on_right = inl (omega arith); on_left = inl (omega arith) }
bounds op.exactly_equal = record { left = omega arith; right = omega arith; most = λ h. omega arith; on_right = inl (omega arith); on_left = inl (omega arith) }
bounds op.exactly_not_equal = record { left = omega arith; right = omega arith; most = λ h. omega arith; on_right = inl (omega arith); on_left = inl (omega arith) }
bounds op.plus = record { left = omega arith; right = omega arith; most = λ h. omega arith; on_right = inl (omega arith); on_left = inr (omega arith) }
bounds op.minus = record { left = omega arith; right = omega arith; most = λ h. omega arith; on_right = inl (omega arith); on_left = inr (omega arith) }
bounds op.bit_or = record { left = omega arith; right = omega arith; most = λ h. omega arith; on_right = inl (omega arith); on_left = inr (omega arith) }
bounds op.bit_xor = record { left = omega arith; right = omega arith; most = λ h. omega arith; on_right = inl (omega arith); on_left = inr (omega arith) }
bounds op.one_of = record { left = omega arith; right = omega arith; most = λ h. omega arith; on_right = inl (omega arith); on_left = inr (omega arith) }
bounds op.just_one_of = record { left = omega arith; right = omega arith; most = λ h. omega arith; on_right = inl (omega arith); on_left = inr (omega arith) }
bounds op.times = record { left = omega arith; right = omega arith; most = λ h. omega arith; on_right = inl (omega arith); on_left = inr (omega arith) }
bounds op.divide = record { left = omega arith; right = omega arith; most = λ h. omega arith; on_right = inl (omega arith); on_left = inr (omega arith) }
bounds op.remainder = record { left = omega arith; right = omega arith; most = λ h. omega arith; on_right = inl (omega arith); on_left = inr (omega arith) }
bounds op.bit_and = record { left = omega arith; right = omega arith; most = λ h. omega arith; on_right = inl (omega arith); on_left = inr (omega arith) }
bounds op.all_of = record { left = omega arith; right = omega arith; most = λ h. omega arith; on_right = inl (omega arith); on_left = inr (omega arith) }
bounds op.bit_not = record { left = omega arith; right = omega arith; most = λ h. absurd (let no : false ≡ true = h in cc); on_right = inr (inr (omega arith)); on_left = inr (omega arith) }
bounds op.negation = record { left = omega arith; right = omega arith; most = λ h. absurd (let no : false ≡ true = h in cc); on_right = inr (inr (omega arith)); on_left = inr (omega arith) }

-- an operator that may be in the right operand of another doesn't have that other in its left one
pub apart : (p o : FunOperator) → is_infix o ≡ true → right_level (operator_binding p) ≤ level_of (operator_binding o) → level_of (operator_binding p) < left_level (operator_binding o)
apart p o two h =
    let a = bounds p in
    let b = bounds o in
    let up = a.right in
    let left = b.left in
    let most = b.most two in
    elim a.on_right [
      | inl x ↦ omega (arith, x, h, left)
      | inr y ↦ elim y [ inl x ↦ elim b.on_left [ inl z ↦ omega (arith, z, h, up) | inr z ↦ omega (arith, x, z, left) ] | inr x ↦ absurd (omega (arith, x, h, most)) ]
    ]
