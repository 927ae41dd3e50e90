-- What is computed is what becomes of a clause, and the outcome is that of the first that is said to fire.
use Rattle.std.proofs.Common.{◌≡◌, zero, inl, inr, List, [], ◌∷◌, Option, Some, None, unwrap_or, refl, sym, ap, ◌∙◌, subst}
use Rattle.def_spec.specs.Matching.{Bindings, bindings_of}
use Rattle.def_spec.specs.Expressions.{Dialect, Context, effects_of_all}
use Rattle.def_spec.specs.Outcome.{Clause, Fires, matched, matched_term, IsOutcomeOf}
use Rattle.def_spec.proofs.Binding.{bind-matches, matches-bind}
use Rattle.def_spec.proofs.Outcomes.{outcome_is_unique}
use Rattle.def_explain.specs.Reasons.{Reason, IsReason, reason_by, reason_of}
use Rattle.def_explain.specs.Verdicts.{Verdict, fails, fires, IsVerdict, fires_with, verdict_by, verdict_of, outcome_after, outcome_by_verdicts}
use Rattle.def_explain.specs.Laws.{VerdictIsComputed, OutcomeIsByVerdicts}
use Rattle.def_explain.proofs.ClauseReasons.{none_untrue, reason_where_not_fired, reason_is_computed}

module _ (d : Dialect) (k : Clause) (c : Context) where
  -- without a reason the clause fires, with the binding that is found
  fired : reason_of d k c ≡ None → (b : Bindings) × (bindings_of k.head (matched_term c) ≡ Some b) × Fires d k c b
  fired n = go (bindings_of k.head (matched_term c)) refl
    where
      go : (o : Option Bindings) → bindings_of k.head (matched_term c) ≡ o → (b : Bindings) × (bindings_of k.head (matched_term c) ≡ Some b) × Fires d k c b
      go (Some b) e = (b, e, record { matches = bind-matches k.head (matched_term c) b e; conditions = none_untrue d b c zero k.conditions (sym (ap (reason_by d k c) e) ∙ n) })
      go None e =
          let z : (r : Reason) × IsReason d k c r = (reason_where_not_fired d k c).1 (λ b f. absurd (cc (sym e ∙ matches-bind k.head (matched_term c) b f.matches))) in
          absurd (cc (sym n ∙ (reason_is_computed d k c z.0).1 z.1))

  pub verdict_without : (b : Bindings) → reason_of d k c ≡ None → bindings_of k.head (matched_term c) ≡ Some b → verdict_of d k c ≡ fires_with d k c b
  verdict_without b n e = ap (verdict_by d k c) n ∙ ap (λ o. fires_with d k c (unwrap_or o [])) e

  pub verdict_with : (r : Reason) → reason_of d k c ≡ Some r → verdict_of d k c ≡ fails r
  verdict_with r e = ap (verdict_by d k c) e

  verdict_sound : (v : Verdict) → verdict_of d k c ≡ v → IsVerdict d k c v
  verdict_sound v e = go (reason_of d k c) refl
    where
      go : (o : Option Reason) → reason_of d k c ≡ o → IsVerdict d k c v
      go (Some r) f = subst (IsVerdict d k c) (sym (verdict_with r f) ∙ e) ((reason_is_computed d k c r).0 f)
      go None f =
          let z : (b : Bindings) × (bindings_of k.head (matched_term c) ≡ Some b) × Fires d k c b = fired f in
          subst (IsVerdict d k c) (sym (verdict_without z.0 f z.1) ∙ e) (z.2, refl)

  verdict_complete : (v : Verdict) → IsVerdict d k c v → verdict_of d k c ≡ v
  verdict_complete (fails r) h = verdict_with r ((reason_is_computed d k c r).1 h)
  verdict_complete (fires b es) h = go (reason_of d k c) refl
    where
      go : (o : Option Reason) → reason_of d k c ≡ o → verdict_of d k c ≡ fires b es
      go (Some r) f = absurd ((reason_where_not_fired d k c).0 (r, (reason_is_computed d k c r).0 f) b h.0)
      go None f = verdict_without b f (matches-bind k.head (matched_term c) b h.0.matches) ∙ ap (fires b) (sym h.1)

pub verdict_is_computed : VerdictIsComputed
verdict_is_computed d k c v = (verdict_sound d k c v, verdict_complete d k c v)

by_verdicts : (d : Dialect) (ks : List Clause) (c : Context) → IsOutcomeOf d ks c (outcome_by_verdicts d ks c)
by_verdicts d [] c = refl
by_verdicts d (k ∷ ks) c = go (verdict_of d k c) refl (by_verdicts d ks c)
  where
    go : (v : Verdict) → verdict_of d k c ≡ v → IsOutcomeOf d ks c (outcome_by_verdicts d ks c) → IsOutcomeOf d (k ∷ ks) c (outcome_after v (outcome_by_verdicts d ks c))
    go (fails r) e h = inr ((reason_where_not_fired d k c).0 (r, verdict_sound d k c (fails r) e), h)
    go (fires b es) e h =
        let f : Fires d k c b × (es ≡ effects_of_all d b c k.body) = verdict_sound d k c (fires b es) e in
        inl (b, f.0, ap matched f.1)

pub outcome_is_by_verdicts : OutcomeIsByVerdicts
outcome_is_by_verdicts d ks c = outcome_is_unique (record { dialect = d; clauses = ks }) c (outcome_by_verdicts d ks c) (by_verdicts d ks c)
