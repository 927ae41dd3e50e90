-- What an operator of constants gives is what the function of that name gives in a specification.
use Rattle.std.proofs.Common.{◌≡◌, ℕ, ℤ, pos, negsuc, zero, suc, ◌+◌, ◌<◌, ◌≤◌, List, [], ◌∷◌, Bool, true, false, not, ◌&&◌, ◌||◌, nat_le, nat_lt, cond, Option, Some, None, Result, Ok, Err, refl, ap, sym, ◌∙◌, subst, arith}
use Rattle.std.specs.Prelude.{◌+ℤ◌, ◌-ℤ◌, ◌*ℤ◌, neg_ℤ, int_le, int_div, int_rem}
use Rattle.std.specs.Int.{w64, int_bit_and, int_bit_or, int_bit_xor}
use Rattle.std.specs.Ordering.{is_gt, is_ge, is_lt, is_le}
use Rattle.std.proofs.lemmas.Bool.{cond_both, ltb-true, le-leb, and_from, cond-true}
use Rattle.def_term.specs.Tree.{Tree, int, atom, pid, tuple, list}
use Rattle.def_term.specs.Order.{tree_cmp, same}
use Rattle.def_term.specs.Names.{word}
use Rattle.def_term.proofs.Same.{same-is}
use Rattle.def_text.specs.Limits.{in_range}
use Rattle.def_spec.specs.Functions as fn
use Rattle.def_spec.specs.Functions.{Func, truth, in_64_bits, of_integers, apply, quotient, rest_of, all_true, some_true, differ}
use Rattle.def_spec.specs.Expressions.{Dialect, Position, in_condition, in_body}
use Rattle.def_spec.specs.Reading.{a_function, named_call}
use Rattle.def_fun.specs.Operators as op
use Rattle.def_fun.specs.Operators.{FunOperator, operator_name}
use Rattle.def_fun.specs.Constants.{Computation, not_computed, gives, gives_too_large, gives_integer, gives_any, gives_truth, gives_any_truth, integer_between, integer_before, of_two_terms, truth_value, of_two_truths, if_truths, or_computed, if_integers, if_integer, if_negation, computed_between, computed_before}

-- the function of an operator between two operands, and of one before one
abbrev pub function_between : FunOperator → Option Func
function_between op.equal = Some fn.equal
function_between op.not_equal = Some fn.not_equal
function_between op.less_or_equal = Some fn.less_or_equal
function_between op.less = Some fn.less
function_between op.greater_or_equal = Some fn.greater_or_equal
function_between op.greater = Some fn.greater
function_between op.exactly_equal = Some fn.exactly_equal
function_between op.exactly_not_equal = Some fn.exactly_not_equal
function_between op.plus = Some fn.add
function_between op.minus = Some fn.subtract
function_between op.bit_or = Some fn.bit_or
function_between op.bit_xor = Some fn.bit_xor
function_between op.one_of = Some fn.one_of
function_between op.just_one_of = Some fn.just_one_of
function_between op.times = Some fn.multiply
function_between op.divide = Some fn.divide
function_between op.remainder = Some fn.remainder
function_between op.bit_and = Some fn.bit_and
function_between op.all_of = Some fn.all_of
function_between o = None

abbrev pub function_before : FunOperator → Option Func
function_before op.bit_not = Some fn.bit_not
function_before op.negation = Some fn.is_false
function_before op.one_of = Some fn.one_of
function_before op.all_of = Some fn.all_of
function_before o = None

pub named_between : (d : Dialect) (part : Position) (o : FunOperator) (f : Func) → named_call d part (operator_name o) 2 ≡ Ok (a_function f) → function_between o ≡ Some f
named_between d in_condition op.or_else f h = absurd (cc)
named_between d in_body op.or_else f h = absurd (cc)
named_between d in_condition op.and_also f h = absurd (cc)
named_between d in_body op.and_also f h = absurd (cc)
named_between d in_condition op.equal f h = cc
named_between d in_body op.equal f h = cc
named_between d in_condition op.not_equal f h = cc
named_between d in_body op.not_equal f h = cc
named_between d in_condition op.less_or_equal f h = cc
named_between d in_body op.less_or_equal f h = cc
named_between d in_condition op.less f h = cc
named_between d in_body op.less f h = cc
named_between d in_condition op.greater_or_equal f h = cc
named_between d in_body op.greater_or_equal f h = cc
named_between d in_condition op.greater f h = cc
named_between d in_body op.greater f h = cc
named_between d in_condition op.exactly_equal f h = cc
named_between d in_body op.exactly_equal f h = cc
named_between d in_condition op.exactly_not_equal f h = cc
named_between d in_body op.exactly_not_equal f h = cc
named_between d in_condition op.plus f h = cc
named_between d in_body op.plus f h = cc
named_between d in_condition op.minus f h = cc
named_between d in_body op.minus f h = cc
named_between d in_condition op.bit_or f h = cc
named_between d in_body op.bit_or f h = cc
named_between d in_condition op.bit_xor f h = cc
named_between d in_body op.bit_xor f h = cc
named_between d in_condition op.one_of f h = cc
named_between d in_body op.one_of f h = cc
named_between d in_condition op.just_one_of f h = cc
named_between d in_body op.just_one_of f h = cc
named_between d in_condition op.times f h = cc
named_between d in_body op.times f h = cc
named_between d in_condition op.divide f h = cc
named_between d in_body op.divide f h = cc
named_between d in_condition op.remainder f h = cc
named_between d in_body op.remainder f h = cc
named_between d in_condition op.bit_and f h = cc
named_between d in_body op.bit_and f h = cc
named_between d in_condition op.all_of f h = cc
named_between d in_body op.all_of f h = cc
named_between d in_condition op.bit_not f h = absurd (cc)
named_between d in_body op.bit_not f h = absurd (cc)
named_between d in_condition op.negation f h = absurd (cc)
named_between d in_body op.negation f h = absurd (cc)

pub named_before : (d : Dialect) (part : Position) (o : FunOperator) (f : Func) → named_call d part (operator_name o) 1 ≡ Ok (a_function f) → function_before o ≡ Some f
named_before d in_condition op.or_else f h = absurd (cc)
named_before d in_body op.or_else f h = absurd (cc)
named_before d in_condition op.and_also f h = absurd (cc)
named_before d in_body op.and_also f h = absurd (cc)
named_before d in_condition op.equal f h = absurd (cc)
named_before d in_body op.equal f h = absurd (cc)
named_before d in_condition op.not_equal f h = absurd (cc)
named_before d in_body op.not_equal f h = absurd (cc)
named_before d in_condition op.less_or_equal f h = absurd (cc)
named_before d in_body op.less_or_equal f h = absurd (cc)
named_before d in_condition op.less f h = absurd (cc)
named_before d in_body op.less f h = absurd (cc)
named_before d in_condition op.greater_or_equal f h = absurd (cc)
named_before d in_body op.greater_or_equal f h = absurd (cc)
named_before d in_condition op.greater f h = absurd (cc)
named_before d in_body op.greater f h = absurd (cc)
named_before d in_condition op.exactly_equal f h = absurd (cc)
named_before d in_body op.exactly_equal f h = absurd (cc)
named_before d in_condition op.exactly_not_equal f h = absurd (cc)
named_before d in_body op.exactly_not_equal f h = absurd (cc)
named_before d in_condition op.plus f h = absurd (cc)
named_before d in_body op.plus f h = absurd (cc)
named_before d in_condition op.minus f h = absurd (cc)
named_before d in_body op.minus f h = absurd (cc)
named_before d in_condition op.bit_or f h = absurd (cc)
named_before d in_body op.bit_or f h = absurd (cc)
named_before d in_condition op.bit_xor f h = absurd (cc)
named_before d in_body op.bit_xor f h = absurd (cc)
named_before d in_condition op.one_of f h = cc
named_before d in_body op.one_of f h = cc
named_before d in_condition op.just_one_of f h = absurd (cc)
named_before d in_body op.just_one_of f h = absurd (cc)
named_before d in_condition op.times f h = absurd (cc)
named_before d in_body op.times f h = absurd (cc)
named_before d in_condition op.divide f h = absurd (cc)
named_before d in_body op.divide f h = absurd (cc)
named_before d in_condition op.remainder f h = absurd (cc)
named_before d in_body op.remainder f h = absurd (cc)
named_before d in_condition op.bit_and f h = absurd (cc)
named_before d in_body op.bit_and f h = absurd (cc)
named_before d in_condition op.all_of f h = cc
named_before d in_body op.all_of f h = cc
named_before d in_condition op.bit_not f h = cc
named_before d in_body op.bit_not f h = cc
named_before d in_condition op.negation f h = cc
named_before d in_body op.negation f h = cc

-- ---- integers

fits : (z : ℤ) → in_range z ≡ true → in_64_bits z ≡ Some (int z)
fits (pos n) h = let b = ltb-true n 9223372036854775808 h in cond-true (nat_le n 9223372036854775807) (Some (int (pos n))) None (le-leb n 9223372036854775807 (omega (arith, b)))
fits (negsuc n) h = let b = ltb-true n 9223372036854775808 h in cond-true (nat_le n 9223372036854775807 && true) (Some (int (negsuc n))) None (and_from (nat_le n 9223372036854775807) true (le-leb n 9223372036854775807 (omega (arith, b))) refl)

same_value : (u v : Tree) → gives u ≡ gives v → u ≡ v
same_value u v h = cc

integer_by : (z : ℤ) (b : Bool) (v : Tree) → in_range z ≡ b → cond b (gives (int z)) gives_too_large ≡ gives v → in_64_bits z ≡ Some v
integer_by z true v e h = fits z e ∙ ap (λ u. Some u) (same_value (int z) v h)
integer_by z false v e h = absurd (cc)

-- an integer that is given
given_integer : (z : ℤ) (v : Tree) → gives_any (Some z) ≡ gives v → in_64_bits z ≡ Some v
given_integer z v h = integer_by z (in_range z) v refl h

or_nothing : (c : Computation) → or_computed c not_computed ≡ c
or_nothing not_computed = refl
or_nothing (gives v) = refl
or_nothing gives_too_large = refl

no_value : (v : Tree) → not_computed ≡ gives v → ⊥
no_value v h = absurd (cc)

-- truths of an operator that has none
none_of_truths : (o : FunOperator) (p q : Option Bool) → ((a b : Bool) → of_two_truths o a b ≡ None) → gives_any_truth (if_truths o p q) ≡ not_computed
none_of_truths o None q h = refl
none_of_truths o (Some a) None h = refl
none_of_truths o (Some a) (Some b) h = ap gives_any_truth (h a b)

-- an operator of integers alone
module _ (o : FunOperator) (terms : (t u : Tree) → of_two_terms o t u ≡ None) (truths : (a b : Bool) → of_two_truths o a b ≡ None) where
  rest_nothing : (t u : Tree) → or_computed (gives_any_truth (of_two_terms o t u)) (gives_any_truth (if_truths o (truth_value t) (truth_value u))) ≡ not_computed
  rest_nothing t u = ap (λ x. or_computed (gives_any_truth x) (gives_any_truth (if_truths o (truth_value t) (truth_value u)))) (terms t u) ∙ none_of_truths o (truth_value t) (truth_value u) truths

  integers_alone : (t u v : Tree) → computed_between o t u ≡ gives v → gives_any (if_integers o t u) ≡ gives v
  integers_alone t u v h = sym (ap (or_computed (gives_any (if_integers o t u))) (rest_nothing t u) ∙ or_nothing (gives_any (if_integers o t u))) ∙ h

-- a comparison
module _ (o : FunOperator) (p : Tree → Tree → Bool) (integers : (a b : ℤ) → integer_between o a b ≡ None) (terms : (t u : Tree) → of_two_terms o t u ≡ Some (p t u)) where
  no_integers : (t u : Tree) → if_integers o t u ≡ None
  no_integers (int a) (int b) = integers a b
  no_integers (int a) (atom s) = refl
  no_integers (int a) (pid n) = refl
  no_integers (int a) (tuple ts) = refl
  no_integers (int a) (list ts) = refl
  no_integers (atom s) u = refl
  no_integers (pid n) u = refl
  no_integers (tuple ts) u = refl
  no_integers (list ts) u = refl

  given_truth : (b : Bool) (c : Computation) (v : Tree) → or_computed (gives_truth b) c ≡ gives v → truth b ≡ v
  given_truth true c v h = same_value (truth true) v h
  given_truth false c v h = same_value (truth false) v h

  compared : (t u v : Tree) → computed_between o t u ≡ gives v → truth (p t u) ≡ v
  compared t u v h =
      let r = gives_any_truth (if_truths o (truth_value t) (truth_value u)) in
      given_truth (p t u) r v (sym (ap (λ x. or_computed (gives_any x) (or_computed (gives_any_truth (of_two_terms o t u)) r)) (no_integers t u) ∙ ap (λ x. or_computed (gives_any_truth x) r) (terms t u)) ∙ h)

-- ---- truths

-- a term that is `true` or `false`
record IsTruth (t : Tree) (a : Bool) : Type 0 where
  pub is_it : same t (word "true") ≡ a
  pub isnt : same t (word "false") ≡ not a

false_apart : same (word "true") (word "false") ≡ false
false_apart = refl

truth_by : (t : Tree) (a b c : Bool) → same t (word "true") ≡ a → same t (word "false") ≡ b → (a ≡ true → b ≡ false) → cond a (Some true) (cond b (Some false) None) ≡ Some c → IsTruth t c
truth_by t true b c e f apart h = let k : true ≡ c = cc in record { is_it = e ∙ k; isnt = f ∙ apart refl ∙ ap not k }
truth_by t false true c e f apart h = let k : false ≡ c = cc in record { is_it = e ∙ k; isnt = f ∙ ap not k }
truth_by t false false c e f apart h = absurd (cc)

true_is_no_false : (t : Tree) → same t (word "true") ≡ true → same t (word "false") ≡ false
true_is_no_false t h = ap (λ x. same x (word "false")) (same-is t (word "true") h)

is_truth : (t : Tree) (c : Bool) → truth_value t ≡ Some c → IsTruth t c
is_truth t c h = truth_by t (same t (word "true")) (same t (word "false")) c refl refl (true_is_no_false t) h

-- ---- what the functions give

-- of two integers
of_integers_given : (o : FunOperator) (g : ℤ → ℤ → Option Tree) → ((a b : ℤ) (v : Tree) → gives_any (integer_between o a b) ≡ gives v → g a b ≡ Some v) → (t u v : Tree) → gives_any (if_integers o t u) ≡ gives v → of_integers g t u ≡ Some v
of_integers_given o g each (int a) (int b) v h = each a b v h
of_integers_given o g each (int a) (atom s) v h = absurd (no_value v h)
of_integers_given o g each (int a) (pid n) v h = absurd (no_value v h)
of_integers_given o g each (int a) (tuple ts) v h = absurd (no_value v h)
of_integers_given o g each (int a) (list ts) v h = absurd (no_value v h)
of_integers_given o g each (atom s) u v h = absurd (no_value v h)
of_integers_given o g each (pid n) u v h = absurd (no_value v h)
of_integers_given o g each (tuple ts) u v h = absurd (no_value v h)
of_integers_given o g each (list ts) u v h = absurd (no_value v h)

quotient_given : (a b : ℤ) (v : Tree) → gives_any (integer_between op.divide a b) ≡ gives v → quotient a b ≡ Some v
quotient_given a (pos zero) v h = absurd (no_value v h)
quotient_given a (pos (suc n)) v h = given_integer (int_div a (pos (suc n))) v h
quotient_given a (negsuc n) v h = given_integer (int_div a (negsuc n)) v h

rest_given : (a b : ℤ) (v : Tree) → gives_any (integer_between op.remainder a b) ≡ gives v → rest_of a b ≡ Some v
rest_given a (pos zero) v h = absurd (no_value v h)
rest_given a (pos (suc n)) v h = given_integer (int_rem a (pos (suc n))) v h
rest_given a (negsuc n) v h = given_integer (int_rem a (negsuc n)) v h

-- an operator of truths alone
module _ (o : FunOperator) (q : Tree → Tree → Bool) (integers : (a b : ℤ) → integer_between o a b ≡ None) (terms : (t u : Tree) → of_two_terms o t u ≡ None) (each : (t u : Tree) (a b : Bool) → IsTruth t a → IsTruth u b → of_two_truths o a b ≡ Some (q t u)) where
  none_there : (t u : Tree) → if_integers o t u ≡ None
  none_there (int a) (int b) = integers a b
  none_there (int a) (atom s) = refl
  none_there (int a) (pid n) = refl
  none_there (int a) (tuple ts) = refl
  none_there (int a) (list ts) = refl
  none_there (atom s) u = refl
  none_there (pid n) u = refl
  none_there (tuple ts) u = refl
  none_there (list ts) u = refl

  truth_given : (b : Bool) (v : Tree) → gives_truth b ≡ gives v → truth b ≡ v
  truth_given true v h = same_value (truth true) v h
  truth_given false v h = same_value (truth false) v h

  truths_by : (t u v : Tree) (p r : Option Bool) → truth_value t ≡ p → truth_value u ≡ r → gives_any_truth (if_truths o p r) ≡ gives v → truth (q t u) ≡ v
  truths_by t u v None r e f h = absurd (no_value v h)
  truths_by t u v (Some a) None e f h = absurd (no_value v h)
  truths_by t u v (Some a) (Some b) e f h = truth_given (q t u) v (sym (ap gives_any_truth (each t u a b (is_truth t a e) (is_truth u b f))) ∙ h)

  truths_given : (t u v : Tree) → computed_between o t u ≡ gives v → truth (q t u) ≡ v
  truths_given t u v h =
      let r = gives_any_truth (if_truths o (truth_value t) (truth_value u)) in
      truths_by t u v (truth_value t) (truth_value u) refl refl (sym (ap (λ x. or_computed (gives_any x) (or_computed (gives_any_truth (of_two_terms o t u)) r)) (none_there t u) ∙ ap (λ x. or_computed (gives_any_truth x) r) (terms t u)) ∙ h)

and_is : (a b : Bool) → ◌≡◌ {A = Option Bool} (Some (a && b)) (Some (a && (b && true)))
and_is true true = refl
and_is true false = refl
and_is false b = refl

or_is : (a b : Bool) → ◌≡◌ {A = Option Bool} (Some (a || b)) (Some (a || (b || false)))
or_is true b = refl
or_is false true = refl
or_is false false = refl

xor_is : (a b : Bool) → ◌≡◌ {A = Option Bool} (Some (cond a (not b) b)) (Some ((a && not b) || (not a && b)))
xor_is true true = refl
xor_is true false = refl
xor_is false true = refl
xor_is false false = refl

both_true : (t u : Tree) (a b : Bool) → IsTruth t a → IsTruth u b → of_two_truths op.all_of a b ≡ Some (all_true (t ∷ u ∷ []))
both_true t u a b h i = and_is a b ∙ ap (λ x. Some (x && (b && true))) (sym h.is_it) ∙ ap (λ x. Some (same t (word "true") && (x && true))) (sym i.is_it)

one_true : (t u : Tree) (a b : Bool) → IsTruth t a → IsTruth u b → of_two_truths op.one_of a b ≡ Some (some_true (t ∷ u ∷ []))
one_true t u a b h i = or_is a b ∙ ap (λ x. Some (x || (b || false))) (sym h.is_it) ∙ ap (λ x. Some (same t (word "true") || (x || false))) (sym i.is_it)

they_differ : (t u : Tree) (a b : Bool) → IsTruth t a → IsTruth u b → of_two_truths op.just_one_of a b ≡ Some (differ t u)
they_differ t u a b h i =
    xor_is a b
    ∙ ap (λ x. Some ((x && not b) || (not a && b))) (sym h.is_it)
    ∙ ap (λ x. Some ((same t (word "true") && x) || (not a && b))) (sym i.isnt)
    ∙ ap (λ x. Some ((same t (word "true") && same u (word "false")) || (x && b))) (sym h.isnt)
    ∙ ap (λ x. Some ((same t (word "true") && same u (word "false")) || (same t (word "false") && x))) (sym i.is_it)

-- each operator between two operands
pub applied_two : (o : FunOperator) (f : Func) (t u v : Tree) (n : ℕ) → function_between o ≡ Some f → computed_between o t u ≡ gives v → apply f (t ∷ u ∷ []) n ≡ Some v
applied_two op.plus f t u v n e h =
    let is : fn.add ≡ f = cc in
    ap (λ k. apply k (t ∷ u ∷ []) n) (sym is) ∙ of_integers_given op.plus (λ a b. in_64_bits (a +ℤ b)) (λ a b w k. given_integer (a +ℤ b) w k) t u v (integers_alone op.plus (λ x y. refl) (λ a b. refl) t u v h)
applied_two op.minus f t u v n e h =
    let is : fn.subtract ≡ f = cc in
    ap (λ k. apply k (t ∷ u ∷ []) n) (sym is) ∙ of_integers_given op.minus (λ a b. in_64_bits (a -ℤ b)) (λ a b w k. given_integer (a -ℤ b) w k) t u v (integers_alone op.minus (λ x y. refl) (λ a b. refl) t u v h)
applied_two op.times f t u v n e h =
    let is : fn.multiply ≡ f = cc in
    ap (λ k. apply k (t ∷ u ∷ []) n) (sym is) ∙ of_integers_given op.times (λ a b. in_64_bits (a *ℤ b)) (λ a b w k. given_integer (a *ℤ b) w k) t u v (integers_alone op.times (λ x y. refl) (λ a b. refl) t u v h)
applied_two op.divide f t u v n e h =
    let is : fn.divide ≡ f = cc in
    ap (λ k. apply k (t ∷ u ∷ []) n) (sym is) ∙ of_integers_given op.divide quotient quotient_given t u v (integers_alone op.divide (λ x y. refl) (λ a b. refl) t u v h)
applied_two op.remainder f t u v n e h =
    let is : fn.remainder ≡ f = cc in
    ap (λ k. apply k (t ∷ u ∷ []) n) (sym is) ∙ of_integers_given op.remainder rest_of rest_given t u v (integers_alone op.remainder (λ x y. refl) (λ a b. refl) t u v h)
applied_two op.bit_and f t u v n e h =
    let is : fn.bit_and ≡ f = cc in
    ap (λ k. apply k (t ∷ u ∷ []) n) (sym is) ∙ of_integers_given op.bit_and (λ a b. in_64_bits (int_bit_and w64 a b)) (λ a b w k. given_integer (int_bit_and w64 a b) w k) t u v (integers_alone op.bit_and (λ x y. refl) (λ a b. refl) t u v h)
applied_two op.bit_or f t u v n e h =
    let is : fn.bit_or ≡ f = cc in
    ap (λ k. apply k (t ∷ u ∷ []) n) (sym is) ∙ of_integers_given op.bit_or (λ a b. in_64_bits (int_bit_or w64 a b)) (λ a b w k. given_integer (int_bit_or w64 a b) w k) t u v (integers_alone op.bit_or (λ x y. refl) (λ a b. refl) t u v h)
applied_two op.bit_xor f t u v n e h =
    let is : fn.bit_xor ≡ f = cc in
    ap (λ k. apply k (t ∷ u ∷ []) n) (sym is) ∙ of_integers_given op.bit_xor (λ a b. in_64_bits (int_bit_xor w64 a b)) (λ a b w k. given_integer (int_bit_xor w64 a b) w k) t u v (integers_alone op.bit_xor (λ x y. refl) (λ a b. refl) t u v h)
applied_two op.equal f t u v n e h =
    let is : fn.equal ≡ f = cc in
    ap (λ k. apply k (t ∷ u ∷ []) n) (sym is) ∙ ap (λ w. Some w) (compared op.equal same (λ a b. refl) (λ x y. refl) t u v h)
applied_two op.exactly_equal f t u v n e h =
    let is : fn.exactly_equal ≡ f = cc in
    ap (λ k. apply k (t ∷ u ∷ []) n) (sym is) ∙ ap (λ w. Some w) (compared op.exactly_equal same (λ a b. refl) (λ x y. refl) t u v h)
applied_two op.not_equal f t u v n e h =
    let is : fn.not_equal ≡ f = cc in
    ap (λ k. apply k (t ∷ u ∷ []) n) (sym is) ∙ ap (λ w. Some w) (compared op.not_equal (λ x y. not (same x y)) (λ a b. refl) (λ x y. refl) t u v h)
applied_two op.exactly_not_equal f t u v n e h =
    let is : fn.exactly_not_equal ≡ f = cc in
    ap (λ k. apply k (t ∷ u ∷ []) n) (sym is) ∙ ap (λ w. Some w) (compared op.exactly_not_equal (λ x y. not (same x y)) (λ a b. refl) (λ x y. refl) t u v h)
applied_two op.less f t u v n e h =
    let is : fn.less ≡ f = cc in
    ap (λ k. apply k (t ∷ u ∷ []) n) (sym is) ∙ ap (λ w. Some w) (compared op.less (λ x y. is_lt (tree_cmp x y)) (λ a b. refl) (λ x y. refl) t u v h)
applied_two op.less_or_equal f t u v n e h =
    let is : fn.less_or_equal ≡ f = cc in
    ap (λ k. apply k (t ∷ u ∷ []) n) (sym is) ∙ ap (λ w. Some w) (compared op.less_or_equal (λ x y. is_le (tree_cmp x y)) (λ a b. refl) (λ x y. refl) t u v h)
applied_two op.greater f t u v n e h =
    let is : fn.greater ≡ f = cc in
    ap (λ k. apply k (t ∷ u ∷ []) n) (sym is) ∙ ap (λ w. Some w) (compared op.greater (λ x y. is_gt (tree_cmp x y)) (λ a b. refl) (λ x y. refl) t u v h)
applied_two op.greater_or_equal f t u v n e h =
    let is : fn.greater_or_equal ≡ f = cc in
    ap (λ k. apply k (t ∷ u ∷ []) n) (sym is) ∙ ap (λ w. Some w) (compared op.greater_or_equal (λ x y. is_ge (tree_cmp x y)) (λ a b. refl) (λ x y. refl) t u v h)
applied_two op.all_of f t u v n e h =
    let is : fn.all_of ≡ f = cc in
    ap (λ k. apply k (t ∷ u ∷ []) n) (sym is) ∙ ap (λ w. Some w) (truths_given op.all_of (λ x y. all_true (x ∷ y ∷ [])) (λ a b. refl) (λ x y. refl) both_true t u v h)
applied_two op.one_of f t u v n e h =
    let is : fn.one_of ≡ f = cc in
    ap (λ k. apply k (t ∷ u ∷ []) n) (sym is) ∙ ap (λ w. Some w) (truths_given op.one_of (λ x y. some_true (x ∷ y ∷ [])) (λ a b. refl) (λ x y. refl) one_true t u v h)
applied_two op.just_one_of f t u v n e h =
    let is : fn.just_one_of ≡ f = cc in
    ap (λ k. apply k (t ∷ u ∷ []) n) (sym is) ∙ ap (λ w. Some w) (truths_given op.just_one_of differ (λ a b. refl) (λ x y. refl) they_differ t u v h)
applied_two op.or_else f t u v n e h = absurd (cc)
applied_two op.and_also f t u v n e h = absurd (cc)
applied_two op.bit_not f t u v n e h = absurd (cc)
applied_two op.negation f t u v n e h = absurd (cc)

-- each operator before one operand
truth_is : (b : Bool) (v : Tree) → gives_truth b ≡ gives v → truth b ≡ v
truth_is true v h = same_value (truth true) v h
truth_is false v h = same_value (truth false) v h

not_given : (t v : Tree) (p : Option Bool) → truth_value t ≡ p → gives_any_truth (if_negation op.negation p) ≡ gives v → truth (same t (word "false")) ≡ v
not_given t v None e h = absurd (no_value v h)
not_given t v (Some a) e h = ap truth ((is_truth t a e).isnt) ∙ truth_is (not a) v h

bits_given : (t v : Tree) → computed_before op.bit_not t ≡ gives v → apply fn.bit_not (t ∷ []) 0 ≡ Some v
bits_given (int a) v h = given_integer (neg_ℤ a -ℤ pos 1) v (sym (or_nothing (gives_integer (neg_ℤ a -ℤ pos 1))) ∙ h)
bits_given (atom s) v h = absurd (no_value v h)
bits_given (pid k) v h = absurd (no_value v h)
bits_given (tuple ts) v h = absurd (no_value v h)
bits_given (list ts) v h = absurd (no_value v h)

negation_given : (t v : Tree) → computed_before op.negation t ≡ gives v → truth (same t (word "false")) ≡ v
negation_given (int a) v h = not_given (int a) v (truth_value (int a)) refl h
negation_given (atom s) v h = not_given (atom s) v (truth_value (atom s)) refl h
negation_given (pid k) v h = not_given (pid k) v (truth_value (pid k)) refl h
negation_given (tuple ts) v h = not_given (tuple ts) v (truth_value (tuple ts)) refl h
negation_given (list ts) v h = not_given (list ts) v (truth_value (list ts)) refl h

pub applied_one : (o : FunOperator) (f : Func) (t v : Tree) (n : ℕ) → function_before o ≡ Some f → computed_before o t ≡ gives v → apply f (t ∷ []) n ≡ Some v
applied_one op.bit_not f t v n e h = let is : fn.bit_not ≡ f = cc in ap (λ k. apply k (t ∷ []) n) (sym is) ∙ bits_given t v h
applied_one op.negation f t v n e h = let is : fn.is_false ≡ f = cc in ap (λ k. apply k (t ∷ []) n) (sym is) ∙ ap (λ w. Some w) (negation_given t v h)
applied_one op.or_else f t v n e h = absurd (cc)
applied_one op.and_also f t v n e h = absurd (cc)
applied_one op.equal f t v n e h = absurd (cc)
applied_one op.not_equal f t v n e h = absurd (cc)
applied_one op.less_or_equal f t v n e h = absurd (cc)
applied_one op.less f t v n e h = absurd (cc)
applied_one op.greater_or_equal f t v n e h = absurd (cc)
applied_one op.greater f t v n e h = absurd (cc)
applied_one op.exactly_equal f t v n e h = absurd (cc)
applied_one op.exactly_not_equal f t v n e h = absurd (cc)
applied_one op.plus f t v n e h = absurd (cc)
applied_one op.minus f t v n e h = absurd (cc)
applied_one op.bit_or f t v n e h = absurd (cc)
applied_one op.bit_xor f t v n e h = absurd (cc)
applied_one op.just_one_of f t v n e h = absurd (cc)
applied_one op.times f t v n e h = absurd (cc)
applied_one op.divide f t v n e h = absurd (cc)
applied_one op.remainder f t v n e h = absurd (cc)
applied_one op.bit_and f t v n e h = absurd (cc)
applied_one op.one_of f (int z) v n e h = absurd (no_value v h)
applied_one op.one_of f (atom s) v n e h = absurd (no_value v h)
applied_one op.one_of f (pid k) v n e h = absurd (no_value v h)
applied_one op.one_of f (tuple ts) v n e h = absurd (no_value v h)
applied_one op.one_of f (list ts) v n e h = absurd (no_value v h)
applied_one op.all_of f (int z) v n e h = absurd (no_value v h)
applied_one op.all_of f (atom s) v n e h = absurd (no_value v h)
applied_one op.all_of f (pid k) v n e h = absurd (no_value v h)
applied_one op.all_of f (tuple ts) v n e h = absurd (no_value v h)
applied_one op.all_of f (list ts) v n e h = absurd (no_value v h)

pub between_is_applied : (d : Dialect) (part : Position) (o : FunOperator) (f : Func) (t u v : Tree) (n : ℕ) → named_call d part (operator_name o) 2 ≡ Ok (a_function f) → computed_between o t u ≡ gives v → apply f (t ∷ u ∷ []) n ≡ Some v
between_is_applied d part o f t u v n h c = applied_two o f t u v n (named_between d part o f h) c

pub before_is_applied : (d : Dialect) (part : Position) (o : FunOperator) (f : Func) (t v : Tree) (n : ℕ) → named_call d part (operator_name o) 1 ≡ Ok (a_function f) → computed_before o t ≡ gives v → apply f (t ∷ []) n ≡ Some v
before_is_applied d part o f t v n h c = applied_one o f t v n (named_before d part o f h) c
