-- The computed outcome is that of the least clause that fires.
use Rattle.std.proofs.Common.{◌≡◌, inl, inr, List, [], ◌∷◌, Bool, true, false, ◌&&◌, Option, Some, None, refl, sym, ap, ◌∙◌, subst, if◌then◌else◌}
use Rattle.std.specs.Option.{option_and_then}
use Rattle.std.proofs.lemmas.Bool.{and_parts}
use Rattle.def_term.specs.Tree.{Tree}
use Rattle.def_term.proofs.Same.{same-is}
use Rattle.def_spec.specs.Matching.{Bindings, Matches, bindings_of}
use Rattle.def_spec.specs.Functions.{truth}
use Rattle.def_spec.specs.Expressions.{Dialect, Exprs, no_exprs, and_expr, Context, in_condition, value, is_true_value}
use Rattle.def_spec.specs.Outcome.{Clause, Outcome, matched_term, EachTrue, Fires, IsOutcomeOf, each_true, firing_bindings, or_next, outcome_in}
use Rattle.def_spec.specs.Laws.{WalkIsMatching, BindingIsUnique, WalkMissesNone, OutcomeIsComputed, OutcomeIsUnique}
use Rattle.def_spec.proofs.Binding.{bind-matches, matches-bind, bindings_in}

pub walk_is_matching : WalkIsMatching
walk_is_matching p t b = (bind-matches p t b, matches-bind p t b)

pub binding_is_unique : BindingIsUnique
binding_is_unique p t b c m n = bindings_in b c (sym (matches-bind p t b m) ∙ matches-bind p t c n)

pub walk_misses_none : WalkMissesNone
walk_misses_none p t = (λ e b m. cc (e, matches-bind p t b m), λ h. go (bindings_of p t) refl h)
  where
    go : (o : Option Bindings) → bindings_of p t ≡ o → ((b : Bindings) → ¬ Matches p t b) → bindings_of p t ≡ None
    go None e h = e
    go (Some b) e h = absurd (h b (bind-matches p t b e))

true_value : (o : Option Tree) → is_true_value o ≡ true → o ≡ Some (truth true)
true_value None e = cc
true_value (Some t) e = ap Some (same-is t (truth true) e)

module _ (d : Dialect) where
  each-of : (b : Bindings) (c : Context) (es : Exprs) → each_true d b c es ≡ true → EachTrue d b c es
  each-of b c no_exprs h = tt
  each-of b c (and_expr e es) h =
      let r : (is_true_value (value d in_condition b c e) ≡ true) × (each_true d b c es ≡ true) = and_parts _ _ h in
      (true_value (value d in_condition b c e) r.0, each-of b c es r.1)

  of-each : (b : Bindings) (c : Context) (es : Exprs) → EachTrue d b c es → each_true d b c es ≡ true
  of-each b c no_exprs h = refl
  of-each b c (and_expr e es) h = ap (λ o. is_true_value o && each_true d b c es) h.0 ∙ of-each b c es h.1

  chosen : (s : Bindings → Bool) (o : Option Bindings) (b : Bindings) → option_and_then (λ x. if s x then Some x else None) o ≡ Some b → (o ≡ Some b) × (s b ≡ true)
  chosen s None b e = cc
  chosen s (Some x) b e = go (s x) refl e
    where
      go : (r : Bool) → s x ≡ r → (if r then Some x else None) ≡ Some b → (Some x ≡ Some b) × (s b ≡ true)
      go true f h = (h, subst (λ y. s y ≡ true) (bindings_in x b h) f)
      go false f h = cc

  firing-fires : (k : Clause) (c : Context) (b : Bindings) → firing_bindings d k c ≡ Some b → Fires d k c b
  firing-fires k c b e =
      let r : (bindings_of k.head (matched_term c) ≡ Some b) × (each_true d b c k.conditions ≡ true) = chosen (λ x. each_true d x c k.conditions) (bindings_of k.head (matched_term c)) b e in
      record { matches = bind-matches k.head (matched_term c) b r.0; conditions = each-of b c k.conditions r.1 }

  fires-firing : (k : Clause) (c : Context) (b : Bindings) → Fires d k c b → firing_bindings d k c ≡ Some b
  fires-firing k c b f =
      ap (option_and_then (λ x. if each_true d x c k.conditions then Some x else None)) (matches-bind k.head (matched_term c) b f.matches)
      ∙ ap (λ s. if s then Some b else None) (of-each b c k.conditions f.conditions)

  computed-is : (ks : List Clause) (c : Context) → IsOutcomeOf d ks c (outcome_in d ks c)
  computed-is [] c = refl
  computed-is (k ∷ ks) c = go (firing_bindings d k c) refl (computed-is ks c)
    where
      go : (o : Option Bindings) → firing_bindings d k c ≡ o → IsOutcomeOf d ks c (outcome_in d ks c) → IsOutcomeOf d (k ∷ ks) c (or_next d o c k.body (outcome_in d ks c))
      go (Some b) e h = inl (b, firing-fires k c b e, refl)
      go None e h = inr ((λ b f. cc (sym e, fires-firing k c b f)), h)

  is-computed : (ks : List Clause) (c : Context) (o : Outcome) → IsOutcomeOf d ks c o → o ≡ outcome_in d ks c
  is-computed [] c o h = h
  is-computed (k ∷ ks) c o (inl h) = h.2 ∙ sym (ap (λ r. or_next d r c k.body (outcome_in d ks c)) (fires-firing k c h.0 h.1))
  is-computed (k ∷ ks) c o (inr h) = go (firing_bindings d k c) refl (is-computed ks c o h.1)
    where
      go : (r : Option Bindings) → firing_bindings d k c ≡ r → o ≡ outcome_in d ks c → o ≡ or_next d (firing_bindings d k c) c k.body (outcome_in d ks c)
      go (Some b) e f = absurd (h.0 b (firing-fires k c b e))
      go None e f = f ∙ sym (ap (λ r. or_next d r c k.body (outcome_in d ks c)) e)

pub outcome_is_computed : OutcomeIsComputed
outcome_is_computed s c = computed-is s.dialect s.clauses c

pub outcome_is_unique : OutcomeIsUnique
outcome_is_unique s c o h = is-computed s.dialect s.clauses c o h
