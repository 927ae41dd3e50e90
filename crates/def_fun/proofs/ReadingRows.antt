-- Rows: texts of funs, and how they are read or refused.
use Rattle.std.proofs.Common.{◌≡◌, ℕ, zero, suc, List, [], ◌∷◌, ◌++◌, replicate, length, Result, Ok, Err, true, codes, refl}
use Rattle.def_text.specs.Faults.{FaultKind, misplaced, too_deep, too_large}
use Rattle.def_fun.specs.Operators as op
use Rattle.def_fun.specs.Trees.{FunExpr, variable, whole, atom, strings, in_parens, call, list, list_onto, tuple, before, between, none, more, both, FunClause}
use Rattle.def_fun.specs.Scan.{fun_spans}
use Rattle.def_fun.specs.Limits.{FUN_DEPTH}
use Rattle.def_fun.specs.Reading.{read_fun, FunFault}

-- the clauses of a text, or its refusal
abbrev pub read_text : List ℕ → Result (List FunClause) FunFault
read_text bytes = read_fun FUN_DEPTH true (fun_spans bytes)

-- where it is refused
abbrev pub place_of : ℕ → Result (List FunClause) FunFault → Result ℕ (FaultKind × ℕ)
place_of end (Ok ks) = Ok (length ks)
place_of end (Err (k, [])) = Err (k, end)
place_of end (Err (k, x ∷ xs)) = Err (k, x.from)

abbrev pub refusal_of : List ℕ → Result ℕ (FaultKind × ℕ)
refusal_of bytes = place_of (length bytes) (read_text bytes)

-- one expression as a body, from the offset 8
abbrev pub body_of : Result (List FunClause) FunFault → List FunExpr
body_of (Ok (k ∷ ks)) = k.body
body_of r = []

abbrev pub expr_in : List ℕ → List FunExpr
expr_in bytes = body_of (read_text (codes "fun(_)->" ++ bytes ++ codes " end"))

-- a text so many times
abbrev pub times_text : ℕ → List ℕ → List ℕ
times_text zero s = []
times_text (suc n) s = s ++ times_text n s

-- ---- levels

-- `X or Y and Z` is `X or (Y and Z)`
pub or_and : expr_in (codes "X or Y and Z") ≡ between 10 op.one_of (variable 8 (codes "X")) (between 15 op.all_of (variable 13 (codes "Y")) (variable 19 (codes "Z"))) ∷ []
or_and = refl

-- `X == 1 and Y` is `X == (1 and Y)`
pub equal_and : expr_in (codes "X == 1 and Y") ≡ between 10 op.equal (variable 8 (codes "X")) (between 15 op.all_of (whole 13 1) (variable 19 (codes "Y"))) ∷ []
equal_and = refl

-- `not X == Y` is `(not X) == Y`
pub not_equal : expr_in (codes "not X == Y") ≡ between 14 op.equal (before 8 op.negation (variable 12 (codes "X"))) (variable 17 (codes "Y")) ∷ []
not_equal = refl

-- `A - B - C` is `(A - B) - C`
pub to_left : expr_in (codes "A-B-C") ≡ between 11 op.minus (between 9 op.minus (variable 8 (codes "A")) (variable 10 (codes "B"))) (variable 12 (codes "C")) ∷ []
to_left = refl

-- `a andalso b andalso c` is `a andalso (b andalso c)`
pub to_right : expr_in (codes "a andalso b andalso c") ≡ between 10 op.and_also (atom 8 (codes "a")) (between 20 op.and_also (atom 18 (codes "b")) (atom 28 (codes "c"))) ∷ []
to_right = refl

-- `a orelse b andalso c` and `a andalso b orelse c`
pub or_else_last : expr_in (codes "a andalso b orelse c") ≡ between 20 op.or_else (between 10 op.and_also (atom 8 (codes "a")) (atom 18 (codes "b"))) (atom 27 (codes "c")) ∷ []
or_else_last = refl

-- `a * - b`
pub times_minus : expr_in (codes "a*-b") ≡ between 9 op.times (atom 8 (codes "a")) (before 10 op.minus (atom 11 (codes "b"))) ∷ []
times_minus = refl

-- `- a * b` is `(- a) * b`
pub minus_times : expr_in (codes "-a*b") ≡ between 10 op.times (before 8 op.minus (atom 9 (codes "a"))) (atom 11 (codes "b")) ∷ []
minus_times = refl

-- comparisons have no order
pub compared_twice : refusal_of (codes "fun(X) -> 1 < X < 5 end") ≡ Err (misplaced, 16)
compared_twice = refl

pub in_parentheses : expr_in (codes "(1<2)<3") ≡ between 13 op.less (in_parens 8 (between 10 op.less (whole 9 1) (whole 11 2))) (whole 14 3) ∷ []
in_parentheses = refl

-- ---- other expressions

pub calls_and_lists : expr_in (codes "f(a,{},[b|[]])") ≡ call 8 (codes "f") (more (atom 10 (codes "a")) (more (tuple 12 none) (more (list_onto 15 (more (atom 16 (codes "b")) none) (list 18 none)) none))) ∷ []
calls_and_lists = refl

pub strings_beside : expr_in (codes "\"a\" \"b\", 1") ≡ strings 8 (codes "a") (codes "b" ∷ []) ∷ whole 17 1 ∷ []
strings_beside = refl

-- ---- whole texts

pub with_stop : read_text (codes "fun([X] = N) when X; N -> true end.") ≡ Ok (record { at = 3; head = both (list 4 (more (variable 5 (codes "X")) none)) (variable 10 (codes "N")); guards = (variable 18 (codes "X") ∷ []) ∷ (variable 21 (codes "N") ∷ []) ∷ []; body = atom 26 (codes "true") ∷ [] } ∷ [])
with_stop = refl

pub two_clauses : refusal_of (codes "fun(X) -> X; (_) -> a, b end") ≡ Ok 2
two_clauses = refl

pub head_is_a_tuple : refusal_of (codes "fun({X}) -> X end") ≡ Err (misplaced, 4)
head_is_a_tuple = refl

pub two_lists : refusal_of (codes "fun([X]=[Y]) -> X end") ≡ Err (misplaced, 8)
two_lists = refl

pub matched_twice : refusal_of (codes "fun(A=B=C) -> X end") ≡ Err (misplaced, 7)
matched_twice = refl

pub operator_in_head : refusal_of (codes "fun([1+2]) -> X end") ≡ Err (misplaced, 6)
operator_in_head = refl

pub minus_in_head : refusal_of (codes "fun([-1,-a]) -> X end") ≡ Err (misplaced, 9)
minus_in_head = refl

pub parentheses_in_head : refusal_of (codes "fun([(a)]) -> X end") ≡ Err (misplaced, 5)
parentheses_in_head = refl

pub call_in_head : refusal_of (codes "fun([a(b)]) -> X end") ≡ Err (misplaced, 6)
call_in_head = refl

pub named : refusal_of (codes "fun F([X]) -> X end") ≡ Err (misplaced, 4)
named = refl

pub no_end : refusal_of (codes "fun([X]) -> X") ≡ Err (misplaced, 13)
no_end = refl

pub empty_body : refusal_of (codes "fun([X]) -> end") ≡ Err (misplaced, 12)
empty_body = refl

pub comma_before_end : refusal_of (codes "fun([X]) -> message(X), end") ≡ Err (misplaced, 24)
comma_before_end = refl

pub unary_plus : refusal_of (codes "fun([X]) when +X > 1 -> true end") ≡ Err (misplaced, 14)
unary_plus = refl

pub more_after_stop : refusal_of (codes "fun(X) -> X end. a") ≡ Err (misplaced, 17)
more_after_stop = refl

-- ---- limits

pub at_64_levels : refusal_of (codes "fun(X)->" ++ replicate 64 91) ≡ Err (misplaced, 72)
at_64_levels = refl

pub at_65_levels : refusal_of (codes "fun(X)->" ++ replicate 65 91) ≡ Err (too_deep, 72)
at_65_levels = refl

-- `a+a+..` at the 65th `+`
pub many_left : refusal_of (codes "fun(X)->a" ++ times_text 65 (codes "+a")) ≡ Err (too_deep, 137)
many_left = refl

-- `a orelse a orelse ..` at the 65th `orelse`
pub many_right : refusal_of (codes "fun(X)->a" ++ times_text 65 (codes " orelse a")) ≡ Err (too_deep, 586)
many_right = refl

pub greatest_integer : refusal_of (codes "fun(X)->9223372036854775807 end") ≡ Ok 1
greatest_integer = refl

pub too_great : refusal_of (codes "fun(X)->9223372036854775808 end") ≡ Err (too_large, 8)
too_great = refl

pub least_integer : refusal_of (codes "fun(X)-> -9223372036854775808 end") ≡ Ok 1
least_integer = refl

pub below_least : refusal_of (codes "fun(X)-> -9223372036854775809 end") ≡ Err (too_large, 10)
below_least = refl

pub minus_between : refusal_of (codes "fun(X)->0-9223372036854775808 end") ≡ Err (too_large, 10)
minus_between = refl

-- a tuple of 255 elements, and the comma after them
pub wide_tuple : refusal_of (codes "fun(X)->{" ++ times_text 255 (codes "a,")) ≡ Err (too_large, 518)
wide_tuple = refl

-- strings beside each other: the one that goes past
pub long_strings : refusal_of (codes "fun(X)->\"" ++ replicate 4096 97 ++ codes "\" \"\" \"b\" end") ≡ Err (too_large, 4110)
long_strings = refl
