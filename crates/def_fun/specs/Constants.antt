-- Operators of constants, which are computed before the fun is translated.
-- Depends on operators, on terms and their order. `ms_transform` has them computed by `erl_eval:partial_eval/1` (STDLIB); the operators are those of the Erlang
-- Reference Manual ("Term Comparisons", "Arithmetic Expressions", "Boolean Expressions").
use Rattle.std.specs.Prelude.{zero, Bool, true, false, not, ◌&&◌, ◌||◌, if◌then◌else◌, Option, Some, None, ℤ, pos, ◌+ℤ◌, ◌-ℤ◌, ◌*ℤ◌, neg_ℤ, int_div, int_rem}
use Rattle.std.specs.Int.{w64, int_bit_and, int_bit_or, int_bit_xor}
use Rattle.std.specs.Ordering.{is_gt, is_ge, is_lt, is_le}
use Rattle.def_term.specs.Tree.{Tree, int}
use Rattle.def_term.specs.Order.{tree_cmp, same}
use Rattle.def_term.specs.Names.{word}
use Rattle.def_text.specs.Limits.{in_range}
use Rattle.def_fun.specs.Operators as op
use Rattle.def_fun.specs.Operators.{FunOperator}

-- what an operator of constants gives: nothing, a value, or an integer outside of signed 64 bits (own)
pub data Computation : Type 0 where
  not_computed : Computation
  gives : Tree → Computation
  gives_too_large : Computation

-- an integer
abbrev pub gives_integer : ℤ → Computation
gives_integer z = if in_range z then gives (int z) else gives_too_large

-- an integer, where there is one
abbrev pub gives_any : Option ℤ → Computation
gives_any None = not_computed
gives_any (Some z) = gives_integer z

-- `true` or `false`
abbrev pub gives_truth : Bool → Computation
gives_truth true = gives (word "true")
gives_truth false = gives (word "false")

-- where there is one
abbrev pub gives_any_truth : Option Bool → Computation
gives_any_truth None = not_computed
gives_any_truth (Some b) = gives_truth b

-- no value where the divisor is 0
abbrev pub unless_zero : (ℤ → ℤ → ℤ) → ℤ → ℤ → Option ℤ
unless_zero f a (pos zero) = None
unless_zero f a b = Some (f a b)

-- of two integers: `div` toward zero, `rem` with the sign of the dividend
abbrev pub integer_between : FunOperator → ℤ → ℤ → Option ℤ
integer_between op.plus a b = Some (a +ℤ b)
integer_between op.minus a b = Some (a -ℤ b)
integer_between op.times a b = Some (a *ℤ b)
integer_between op.divide a b = unless_zero int_div a b
integer_between op.remainder a b = unless_zero int_rem a b
integer_between op.bit_and a b = Some (int_bit_and w64 a b)
integer_between op.bit_or a b = Some (int_bit_or w64 a b)
integer_between op.bit_xor a b = Some (int_bit_xor w64 a b)
integer_between o a b = None

-- of one integer
abbrev pub integer_before : FunOperator → ℤ → Option ℤ
integer_before op.minus a = Some (neg_ℤ a)
integer_before op.bit_not a = Some (neg_ℤ a -ℤ pos 1)
integer_before o a = None

-- comparisons, by the order of terms
abbrev pub of_two_terms : FunOperator → Tree → Tree → Option Bool
of_two_terms op.equal t u = Some (same t u)
of_two_terms op.exactly_equal t u = Some (same t u)
of_two_terms op.not_equal t u = Some (not (same t u))
of_two_terms op.exactly_not_equal t u = Some (not (same t u))
of_two_terms op.less t u = Some (is_lt (tree_cmp t u))
of_two_terms op.less_or_equal t u = Some (is_le (tree_cmp t u))
of_two_terms op.greater t u = Some (is_gt (tree_cmp t u))
of_two_terms op.greater_or_equal t u = Some (is_ge (tree_cmp t u))
of_two_terms o t u = None

-- a term that is `true` or `false`
abbrev pub truth_value : Tree → Option Bool
truth_value t = if same t (word "true") then Some true else (if same t (word "false") then Some false else None)

-- of two of them
abbrev pub of_two_truths : FunOperator → Bool → Bool → Option Bool
of_two_truths op.all_of a b = Some (a && b)
of_two_truths op.one_of a b = Some (a || b)
of_two_truths op.just_one_of a b = Some (if a then not b else b)
of_two_truths o a b = None

-- where both are
abbrev pub if_truths : FunOperator → Option Bool → Option Bool → Option Bool
if_truths o (Some a) (Some b) = of_two_truths o a b
if_truths o a b = None

-- the first that gives one
abbrev pub or_computed : Computation → Computation → Computation
or_computed not_computed c = c
or_computed c d = c

-- integers of two terms
abbrev pub if_integers : FunOperator → Tree → Tree → Option ℤ
if_integers o (int a) (int b) = integer_between o a b
if_integers o t u = None

-- the integer of one
abbrev pub if_integer : FunOperator → Tree → Option ℤ
if_integer o (int a) = integer_before o a
if_integer o t = None

-- `not`
abbrev pub if_negation : FunOperator → Option Bool → Option Bool
if_negation op.negation (Some a) = Some (not a)
if_negation o a = None

-- an operator between two constants
abbrev pub computed_between : FunOperator → Tree → Tree → Computation
computed_between o t u = or_computed (gives_any (if_integers o t u)) (or_computed (gives_any_truth (of_two_terms o t u)) (gives_any_truth (if_truths o (truth_value t) (truth_value u))))

-- an operator before one
abbrev pub computed_before : FunOperator → Tree → Computation
computed_before o t = or_computed (gives_any (if_integer o t)) (gives_any_truth (if_negation o (truth_value t)))
