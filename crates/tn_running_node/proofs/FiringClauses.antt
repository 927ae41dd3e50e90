-- A clause fires where its head has a binding by which its conditions are true.
use Rattle.std.proofs.Common.{◌≡◌, ◌∙◌, true, false, ◌&&◌, List, [], Option, Some, None, refl, sym, ap, subst}
use Rattle.std.proofs.lemmas.Bool.{and_parts, false≢true}
use Rattle.def_term.specs.Tree.{Tree}
use Rattle.def_term.proofs.Same.{same-is}
use Rattle.def_spec.specs.Functions.{truth}
use Rattle.def_spec.specs.Matching.{Bindings, bindings_of}
use Rattle.def_spec.specs.Expressions.{Dialect, Expr, Exprs, no_exprs, and_expr, Context, Effect, in_condition, or_fault, its_value, evaluation, value, is_true_value, effects_of_all}
use Rattle.def_spec.specs.Outcome.{Clause, EachTrue, Fires, matched_term, each_true}
use Rattle.def_spec.proofs.Binding.{bind-matches, matches-bind, bindings_in}
use Rattle.def_explain.specs.Reasons.{Reason}
use Rattle.def_explain.specs.Verdicts.{Verdict, fails, fires, verdict_of}
use Rattle.def_explain.proofs.ClauseVerdicts.{verdict_is_computed}
use Rattle.tn_action.proofs.Steps.{answered_value}

true-value : (o : Option Tree) → is_true_value o ≡ true → o ≡ Some (truth true)
true-value None h = absurd (cc h)
true-value (Some t) h = ap Some (same-is t (truth true) h)

module _ (d : Dialect) (c : Context) where
  each-of : (b : Bindings) (es : Exprs) → each_true d b c es ≡ true → EachTrue d b c es
  each-of b no_exprs h = tt
  each-of b (and_expr e es) h =
      let both : (is_true_value (value d in_condition b c e) ≡ true) × (each_true d b c es ≡ true) = and_parts (is_true_value (value d in_condition b c e)) (each_true d b c es) h in
      (true-value (value d in_condition b c e) both.0, each-of b es both.1)

  of-each : (b : Bindings) (es : Exprs) → EachTrue d b c es → each_true d b c es ≡ true
  of-each b no_exprs h = refl
  of-each b (and_expr e es) h = ap (λ o. is_true_value o && each_true d b c es) h.0 ∙ of-each b es h.1

  -- what a condition comes to after no effects is its value
  pub value_of_condition : (b : Bindings) (e : Expr) (o : Option Tree) (x y : List Effect) → or_fault o x ≡ evaluation d in_condition b c e y → y ≡ [] → o ≡ value d in_condition b c e
  value_of_condition b e o x y h none = sym (answered_value o x) ∙ ap its_value (h ∙ ap (λ z. evaluation d in_condition b c e z) none)

  module _ (k : Clause) where
    -- it fires
    pub fires_with : (b : Bindings) → bindings_of k.head (matched_term c) ≡ Some b → each_true d b c k.conditions ≡ true → fires b (effects_of_all d b c k.body) ≡ verdict_of d k c
    fires_with b e h = sym ((verdict_is_computed d k c (fires b (effects_of_all d b c k.body))).1 (record { matches = bind-matches k.head (matched_term c) b e; conditions = each-of b k.conditions h }, refl))

    -- where it can't, it fails
    where-none : ((b : Bindings) → Fires d k c b → ⊥) → (r : Reason) × (fails r ≡ verdict_of d k c)
    where-none none = go (verdict_of d k c) refl
      where
        go : (v : Verdict) → verdict_of d k c ≡ v → (r : Reason) × (fails r ≡ verdict_of d k c)
        go (fails r) e = (r, sym e)
        go (fires b es) e = absurd (none b ((verdict_is_computed d k c (fires b es)).0 e).0)

    -- the head has no binding
    pub fails_by_head : bindings_of k.head (matched_term c) ≡ None → (r : Reason) × (fails r ≡ verdict_of d k c)
    fails_by_head e = where-none (λ b f. cc (sym e ∙ matches-bind k.head (matched_term c) b f.matches))

    -- a condition isn't true
    pub fails_by_conditions : (b : Bindings) → bindings_of k.head (matched_term c) ≡ Some b → each_true d b c k.conditions ≡ false → (r : Reason) × (fails r ≡ verdict_of d k c)
    fails_by_conditions b e h =
        where-none
        (λ x f.
        let is : b ≡ x = bindings_in b x (sym e ∙ matches-bind k.head (matched_term c) x f.matches) in
        false≢true (sym h ∙ subst (λ y. each_true d y c k.conditions ≡ true) (sym is) (of-each x k.conditions f.conditions)))
