-- Rows: which of two operators is the outer one, for each two operators, as their levels say.
use Rattle.std.proofs.Common.{◌≡◌, ℕ, ◌+◌, List, [], ◌∷◌, ◌++◌, map, true, if◌then◌else◌, nat_lt, Result, Ok, Err, codes, refl}
use Rattle.def_fun.specs.Operators as op
use Rattle.def_fun.specs.Operators.{FunOperator, Binding, to_the_left, to_the_right, to_neither, prefix_alone, operator_binding, level_of}
use Rattle.def_fun.specs.Tokens as token
use Rattle.def_fun.specs.Tokens.{FunToken, FunSpan}
use Rattle.def_fun.specs.Scan.{fun_span}
use Rattle.def_fun.specs.Trees.{FunExpr, before, between, FunClause}
use Rattle.def_fun.specs.Limits.{FUN_DEPTH}
use Rattle.def_fun.specs.Reading.{read_fun, FunFault}

-- tokens of one byte each, from that offset on
abbrev spans_of : ℕ → List FunToken → List FunSpan
spans_of at [] = []
spans_of at (t ∷ ts) = fun_span t at (at + 1) ∷ spans_of (at + 1) ts

abbrev named : List ℕ → FunToken
named s = token.variable s

-- `fun(_)->` and these tokens, the first of which is at 5, and `end`
abbrev fun_of : List FunToken → List FunSpan
fun_of ts = spans_of 0 (token.fun_word ∷ token.open_paren ∷ named (codes "_") ∷ token.close_paren ∷ token.arrow ∷ (ts ++ token.end_word ∷ []))

-- the offset of the outermost operator
abbrev operator_offset : FunExpr → ℕ
operator_offset (between at o l r) = at
operator_offset (before at o e) = at
operator_offset e = 0

abbrev outer_in : List FunExpr → ℕ
outer_in (e ∷ []) = operator_offset e
outer_in es = 0

-- that of the one expression of the body, or where the tokens are refused
abbrev outermost : Result (List FunClause) FunFault → Result ℕ ℕ
outermost (Ok (k ∷ [])) = Ok (outer_in k.body)
outermost (Ok ks) = Ok 0
outermost (Err (k, x ∷ xs)) = Err x.from
outermost (Err (k, [])) = Err 0

-- of `A o B p C`, where o is at 6 and p at 8
abbrev outer_of_two : FunOperator → FunOperator → Result ℕ ℕ
outer_of_two o p = outermost (read_fun FUN_DEPTH true (fun_of (named (codes "A") ∷ token.operator o ∷ named (codes "B") ∷ token.operator p ∷ named (codes "C") ∷ [])))

-- of the same level: the last to the left, the first to the right, and else the second is refused
abbrev outer_of_level : Binding → Result ℕ ℕ
outer_of_level (to_the_left n) = Ok 8
outer_of_level (to_the_right n) = Ok 6
outer_of_level (to_neither n) = Err 8
outer_of_level prefix_alone = Err 0

-- the one that binds less
abbrev outer_by_levels : FunOperator → FunOperator → Result ℕ ℕ
outer_by_levels o p =
    if nat_lt (level_of (operator_binding p)) (level_of (operator_binding o)) then Ok 8
    else (if nat_lt (level_of (operator_binding o)) (level_of (operator_binding p)) then Ok 6
    else outer_of_level (operator_binding o))

abbrev comparisons : List FunOperator
comparisons = op.equal ∷ op.not_equal ∷ op.less_or_equal ∷ op.less ∷ op.greater_or_equal ∷ op.greater ∷ op.exactly_equal ∷ op.exactly_not_equal ∷ []

abbrev sums : List FunOperator
sums = op.plus ∷ op.minus ∷ op.bit_or ∷ op.bit_xor ∷ op.one_of ∷ op.just_one_of ∷ []

abbrev products : List FunOperator
products = op.times ∷ op.divide ∷ op.remainder ∷ op.bit_and ∷ op.all_of ∷ []

-- each operator with each of some
abbrev pairs : (FunOperator → FunOperator → Result ℕ ℕ) → List FunOperator → List (List (Result ℕ ℕ))
pairs f os =
    map (λ o. map (f o) (op.or_else ∷ op.and_also ∷ [])) os ++ map (λ o. map (f o) comparisons) os ++ map (λ o. map (f o) sums) os ++ map (λ o. map (f o) products) os

pub or_else_with_each : pairs outer_of_two (op.or_else ∷ []) ≡ pairs outer_by_levels (op.or_else ∷ [])
or_else_with_each = refl

pub and_also_with_each : pairs outer_of_two (op.and_also ∷ []) ≡ pairs outer_by_levels (op.and_also ∷ [])
and_also_with_each = refl

pub comparisons_with_each : pairs outer_of_two comparisons ≡ pairs outer_by_levels comparisons
comparisons_with_each = refl

pub sums_with_each : pairs outer_of_two sums ≡ pairs outer_by_levels sums
sums_with_each = refl

pub products_with_each : pairs outer_of_two products ≡ pairs outer_by_levels products
products_with_each = refl

-- ---- prefixes bind most: of `o A p B`, where o is at 5, and of `A p o B`, p is the outer one

abbrev outer_after_prefix : FunOperator → FunOperator → Result ℕ ℕ
outer_after_prefix o p = outermost (read_fun FUN_DEPTH true (fun_of (token.operator o ∷ named (codes "A") ∷ token.operator p ∷ named (codes "B") ∷ [])))

abbrev outer_before_prefix : FunOperator → FunOperator → Result ℕ ℕ
outer_before_prefix o p = outermost (read_fun FUN_DEPTH true (fun_of (named (codes "A") ∷ token.operator p ∷ token.operator o ∷ named (codes "B") ∷ [])))

abbrev prefixes : List FunOperator
prefixes = op.minus ∷ op.bit_not ∷ op.negation ∷ []

pub prefix_with_each : pairs outer_after_prefix prefixes ≡ pairs (λ o p. Ok 7) prefixes
prefix_with_each = refl

pub each_with_prefix : pairs outer_before_prefix prefixes ≡ pairs (λ o p. Ok 6) prefixes
each_with_prefix = refl
