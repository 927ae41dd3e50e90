-- The operators of funs: their names, and how strongly they bind.
-- Depends on nothing. They are those of the Erlang Reference Manual ("Expressions", "Operator Precedence") that this profile has (own).
use Rattle.std.specs.Prelude.{ℕ, ◌+◌, Bool, true, false, codes}
use Rattle.def_term.specs.Names.{Name}

-- `orelse`, `andalso`, the eight comparisons, those at the level of `+`, those at the level of `*`, and two prefixes; `-` is a prefix too
pub data FunOperator : Type 0 where
  or_else and_also : FunOperator
  equal not_equal less_or_equal less greater_or_equal greater exactly_equal exactly_not_equal : FunOperator
  plus minus bit_or bit_xor one_of just_one_of : FunOperator
  times divide remainder bit_and all_of : FunOperator
  bit_not negation : FunOperator

-- how it is written
abbrev pub operator_name : FunOperator → Name
operator_name or_else = codes "orelse"
operator_name and_also = codes "andalso"
operator_name equal = codes "=="
operator_name not_equal = codes "/="
operator_name less_or_equal = codes "=<"
operator_name less = codes "<"
operator_name greater_or_equal = codes ">="
operator_name greater = codes ">"
operator_name exactly_equal = codes "=:="
operator_name exactly_not_equal = codes "=/="
operator_name plus = codes "+"
operator_name minus = codes "-"
operator_name bit_or = codes "bor"
operator_name bit_xor = codes "bxor"
operator_name one_of = codes "or"
operator_name just_one_of = codes "xor"
operator_name times = codes "*"
operator_name divide = codes "div"
operator_name remainder = codes "rem"
operator_name bit_and = codes "band"
operator_name all_of = codes "and"
operator_name bit_not = codes "bnot"
operator_name negation = codes "not"

-- what an operator between two operands is: of which level, and which operand may be of the same level
pub data Binding : Type 0 where
  to_the_left : ℕ → Binding
  to_the_right : ℕ → Binding
  to_neither : ℕ → Binding
  -- it has no left operand
  prefix_alone : Binding

-- `orelse` binds least, then `andalso`, then comparisons, then `+`, then `*`; a prefix binds most
abbrev pub operator_binding : FunOperator → Binding
operator_binding or_else = to_the_right 1
operator_binding and_also = to_the_right 2
operator_binding equal = to_neither 3
operator_binding not_equal = to_neither 3
operator_binding less_or_equal = to_neither 3
operator_binding less = to_neither 3
operator_binding greater_or_equal = to_neither 3
operator_binding greater = to_neither 3
operator_binding exactly_equal = to_neither 3
operator_binding exactly_not_equal = to_neither 3
operator_binding plus = to_the_left 4
operator_binding minus = to_the_left 4
operator_binding bit_or = to_the_left 4
operator_binding bit_xor = to_the_left 4
operator_binding one_of = to_the_left 4
operator_binding just_one_of = to_the_left 4
operator_binding times = to_the_left 5
operator_binding divide = to_the_left 5
operator_binding remainder = to_the_left 5
operator_binding bit_and = to_the_left 5
operator_binding all_of = to_the_left 5
operator_binding bit_not = prefix_alone
operator_binding negation = prefix_alone

-- the level of a prefix with its operand
abbrev pub PREFIX_LEVEL : ℕ
PREFIX_LEVEL = 6

-- the level of an operator between two operands
abbrev pub level_of : Binding → ℕ
level_of (to_the_left n) = n
level_of (to_the_right n) = n
level_of (to_neither n) = n
level_of prefix_alone = PREFIX_LEVEL

-- the least level of its left operand
abbrev pub left_level : Binding → ℕ
left_level (to_the_left n) = n
left_level (to_the_right n) = n + 1
left_level (to_neither n) = n + 1
left_level prefix_alone = PREFIX_LEVEL

-- the least level of its right operand
abbrev pub right_level : Binding → ℕ
right_level (to_the_left n) = n + 1
right_level (to_the_right n) = n
right_level (to_neither n) = n + 1
right_level prefix_alone = PREFIX_LEVEL

-- it may be between two operands
abbrev pub is_infix : FunOperator → Bool
is_infix bit_not = false
is_infix negation = false
is_infix o = true

-- it may be before one operand
abbrev pub is_prefix : FunOperator → Bool
is_prefix minus = true
is_prefix bit_not = true
is_prefix negation = true
is_prefix o = false
