-- An expression evaluates alike with the bindings of the variables that stand in it alone.
use Rattle.std.proofs.Common.{◌≡◌, ◌∙◌, ℕ, Bool, true, false, List, [], ◌∷◌, None, cond, refl, sym, ap, arith, if◌then◌else◌}
use Rattle.std.proofs.lemmas.Bool.Decides.{nat_tests}
use Rattle.std.specs.Prelude.{filter, ◌||◌}
use Rattle.std.specs.Ordering.{nat_cmp}
use Rattle.std.specs.FinMap.Entries.{find-where_key}
use Rattle.std.specs.declared.cmp.Ordering.TheVariants.{Equal}
use Rattle.def_term.specs.Tree.{tuple, list, of_elements}
use Rattle.def_spec.specs.Matching.{Bindings, value_bound}
use Rattle.def_spec.specs.Functions.{truth, is_true, apply}
use Rattle.def_spec.specs.Expressions.{Dialect, Position, in_condition, Expr, bound_to, whole_list, all_bound, constant, tuple_of, list_of, call, and_also, or_else, perform, Exprs, no_exprs, and_expr, Context, context_after, Effect, comes_to, then_on, or_fault, settle, with_effect, action_done, values_bound, evaluation, evaluation_of_all, evaluation_while_true, evaluation_until_true, its_value}
use Rattle.def_explain.specs.Reasons.{stands_in, stands_in_one}
use Rattle.def_explain.specs.Laws.{ValueOfVariablesWithin}
use Rattle.def_explain.proofs.Mismatches.{self_equal}

same_equal : (m n : ℕ) → nat_cmp m n ≡ Equal → m ≡ n
same_equal m n e = grind (arith, nat_tests)

or_left : (a b : Bool) → a ≡ true → a || b ≡ true
or_left true b e = refl
or_left false b e = cc

or_right : (a b : Bool) → b ≡ true → a || b ≡ true
or_right true b e = refl
or_right false b e = e

module _ (f : ℕ → Bool) (b : Bindings) where
  bound : (m : ℕ) → f m ≡ true → value_bound (filter (λ p. f p.0) b) m ≡ value_bound b m
  bound m h = find-where_key nat_cmp f m (λ n e. ap f (sym (same_equal m n e))) b ∙ ap (λ t. cond t (value_bound b m) None) h

all_pass : (f : ℕ → Bool) (b : Bindings) → ((n : ℕ) → f n ≡ true) → filter (λ p. f p.0) b ≡ b
all_pass f [] h = refl
all_pass f (p ∷ ps) h = ap (λ t. cond t (p ∷ filter (λ q. f q.0) ps) (filter (λ q. f q.0) ps)) (h p.0) ∙ ap (λ qs. p ∷ qs) (all_pass f ps h)

module _ (d : Dialect) (part : Position) (f : ℕ → Bool) (b : Bindings) (c : Context) where
  abbrev some_of : Bindings
  some_of = filter (λ p. f p.0) b

  abbrev Has : Expr → Type 0
  Has e = (n : ℕ) → stands_in n e ≡ true → f n ≡ true

  abbrev HasAll : Exprs → Type 0
  HasAll es = (n : ℕ) → stands_in_one n es ≡ true → f n ≡ true

  first_has : (e : Expr) (es : Exprs) → HasAll (and_expr e es) → Has e
  first_has e es h n k = h n (or_left (stands_in n e) (stands_in_one n es) k)

  rest_has : (e : Expr) (es : Exprs) → HasAll (and_expr e es) → HasAll es
  rest_has e es h n k = h n (or_right (stands_in n e) (stands_in_one n es) k)

  mutual
    alike : (e : Expr) (x : List Effect) → Has e → evaluation d part some_of c e x ≡ evaluation d part b c e x
    alike (bound_to n) x h = ap (λ v. or_fault v x) (bound f b n (h n (self_equal n)))
    alike whole_list x h = refl
    alike all_bound x h = ap (λ bs. comes_to (list (of_elements (values_bound bs))) x) (all_pass f b (λ n. h n refl))
    alike (constant t) x h = refl
    alike (tuple_of es) x h = ap (λ r. then_on r (λ ts y. comes_to (tuple (of_elements ts)) y)) (alike_all es x h)
    alike (list_of es) x h = ap (λ r. then_on r (λ ts y. comes_to (list (of_elements ts)) y)) (alike_all es x h)
    alike (call g es) x h = ap (λ r. then_on r (λ ts y. or_fault (settle part (apply g ts c.self_pid)) y)) (alike_all es x h)
    alike (and_also es) x h = alike_while es x h
    alike (or_else es) x h = alike_until es x h
    alike (perform a es) x h = ap (λ r. then_on r (λ ts y. with_effect part (action_done d a ts (context_after c y)) y)) (alike_all es x h)

    alike_all : (es : Exprs) (x : List Effect) → HasAll es → evaluation_of_all d part some_of c es x ≡ evaluation_of_all d part b c es x
    alike_all no_exprs x h = refl
    alike_all (and_expr e es) x h = λ i. then_on (alike e x (first_has e es h) i) (λ t y. then_on (alike_all es y (rest_has e es h) i) (λ ts z. comes_to (t ∷ ts) z))

    alike_while : (es : Exprs) (x : List Effect) → HasAll es → evaluation_while_true d part some_of c es x ≡ evaluation_while_true d part b c es x
    alike_while no_exprs x h = refl
    alike_while (and_expr e es) x h = λ i. then_on (alike e x (first_has e es h) i) (λ t y. if is_true t then alike_while es y (rest_has e es h) i else comes_to (truth false) y)

    alike_until : (es : Exprs) (x : List Effect) → HasAll es → evaluation_until_true d part some_of c es x ≡ evaluation_until_true d part b c es x
    alike_until no_exprs x h = refl
    alike_until (and_expr e es) x h = λ i. then_on (alike e x (first_has e es h) i) (λ t y. if is_true t then comes_to (truth true) y else alike_until es y (rest_has e es h) i)

pub value_of_variables_within : ValueOfVariablesWithin
value_of_variables_within d b c e = ap its_value (alike d in_condition (λ n. stands_in n e) b c e [] (λ n h. h))
