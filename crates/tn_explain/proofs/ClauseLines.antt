-- The lines of clauses, one after another, and the outcome that they tell of.
use Rattle.std.proofs.Common.{◌≡◌, ◌∙◌, ℕ, suc, ◌+◌, ◌<◌, ◌≤◌, List, [], ◌∷◌, ◌++◌, Option, Some, None, codes, length, get_or, drop, map, refl, sym, ap, append_assoc, add-one}
use Rattle.std.proofs.lemmas.List.{drop_more, drop_all}
use Rattle.std.specs.Option.{option_map}
use Rattle.def_term.specs.Names.{Name}
use Rattle.def_spec.specs.Expressions.{Dialect, Context, Effect}
use Rattle.def_spec.specs.Matching.{Bindings}
use Rattle.def_spec.specs.Outcome as outcome
use Rattle.def_session.specs.Settings.{off, plain, by}
use Rattle.def_session.specs.Session.{effects_of_outcome, evaluated_by, mark_asked}
use Rattle.def_explain.specs.Reasons.{Reason}
use Rattle.def_explain.specs.Verdicts.{fails, fires, verdict_of, outcome_after, outcome_by_verdicts}
use Rattle.def_explain.specs.Differences.{clause_differences}
use Rattle.def_explain.specs.Accounts.{Line, said, differs, lines_by, clause_lines}
use Rattle.def_explain.proofs.ClauseVerdicts.{outcome_is_by_verdicts}
use Rattle.tn_spec.specs.Views.{clause_seen}
use Rattle.tn_spec.specs.declared.spec.Clause.{Clause}
use Rattle.tn_session.specs.Views.{mark_kind_seen}
use Rattle.tn_session.specs.declared.state.Kind as code
use Rattle.tn_explain.specs.Evaluations.{GivesBySetting}
use Rattle.tn_explain.specs.LineParts.{failing_lines, firing_lines}
use Rattle.tn_explain.specs.Lines.{lines_text}
use Rattle.tn_explain.specs.declared.clauses.Evaluation.{Evaluation}
use Rattle.tn_explain.specs.declared.clauses.Evaluation.TheVariants.{Refused, Done}
use Rattle.tn_explain.proofs.LineTexts.{nothing, lines-append}

module _ {A : Type 0} (n : Name) (d : Dialect) (c : Context) (ks : List (Clause A)) where
  -- of the clauses after so many
  abbrev pub lines_from : ℕ → List Line
  lines_from i = clause_lines i d (map clause_seen (drop i ks)) c

  abbrev pub outcome_from : ℕ → outcome.Outcome
  outcome_from i = outcome_by_verdicts d (map clause_seen (drop i ks)) c

  -- what is written of the first so many, and what they leave to those after them
  pub record SoFar (i : ℕ) (old now : List ℕ) : Type 0 where
    pub text : now ++ lines_text n (lines_from i) ≡ old ++ lines_text n (lines_from 0)
    pub outcome : outcome_from i ≡ outcome_from 0

  pub begun : (old : List ℕ) → SoFar 0 old old
  begun old = record { text = refl; outcome = refl }

  module _ (i : ℕ) (old now after : List ℕ) (so_far : SoFar i old now) where
    lines_here : (k : Clause A) → i < length ks → k ≡ get_or ks i k → lines_from i ≡ lines_by i d (clause_seen k) c (verdict_of d (clause_seen k) c) (lines_from (i + 1))
    lines_here k below is =
        ap (λ js. clause_lines i d (map clause_seen js) c) (drop_more ks i k below)
        ∙ ap (λ j. lines_by i d (clause_seen j) c (verdict_of d (clause_seen j) c) (clause_lines (suc i) d (map clause_seen (drop (i + 1) ks)) c)) (sym is)
        ∙ ap (λ m. lines_by i d (clause_seen k) c (verdict_of d (clause_seen k) c) (clause_lines m d (map clause_seen (drop (i + 1) ks)) c)) (sym (add-one i))

    outcome_here : (k : Clause A) → i < length ks → k ≡ get_or ks i k → outcome_from i ≡ outcome_after (verdict_of d (clause_seen k) c) (outcome_from (i + 1))
    outcome_here k below is =
        ap (λ js. outcome_by_verdicts d (map clause_seen js) c) (drop_more ks i k below)
        ∙ ap (λ j. outcome_after (verdict_of d (clause_seen j) c) (outcome_from (i + 1))) (sym is)

    -- one that doesn't fire
    pub goes_on : (k : Clause A) (r : Reason) → i < length ks → k ≡ get_or ks i k → fails r ≡ verdict_of d (clause_seen k) c → after ≡ now ++ lines_text n (failing_lines i r) → SoFar (i + 1) old after
    goes_on k r below is of made = record {
      text =
          ap (λ l. l ++ lines_text n (lines_from (i + 1))) made
          ∙ append_assoc now (lines_text n (failing_lines i r)) (lines_text n (lines_from (i + 1)))
          ∙ ap (λ l. now ++ l) (sym (lines-append n (failing_lines i r) (lines_from (i + 1))) ∙ ap (lines_text n) (ap (λ v. lines_by i d (clause_seen k) c v (lines_from (i + 1))) of ∙ sym (lines_here k below is)))
          ∙ so_far.text;
      outcome = ap (λ v. outcome_after v (outcome_from (i + 1))) of ∙ sym (outcome_here k below is) ∙ so_far.outcome;
    }

    by_outcome : (o : outcome.Outcome) → outcome_from i ≡ o → evaluated_by (by (record { dialect = d; clauses = map clause_seen ks })) c ≡ effects_of_outcome o
    by_outcome o e = ap effects_of_outcome (sym (outcome_is_by_verdicts d (map clause_seen ks) c) ∙ sym so_far.outcome ∙ e)

    abbrev whole : Evaluation → Type 0
    whole r = GivesBySetting n (by (record { dialect = d; clauses = map clause_seen ks })) c old after r

    -- the one that fires
    pub ends : (k : Clause A) (b : Bindings) (es : List Effect) (mark : Option code.Kind) → i < length ks → k ≡ get_or ks i k → fires b es ≡ verdict_of d (clause_seen k) c → after ≡ now ++ lines_text n (firing_lines i es ++ map differs (clause_differences d (clause_seen k) b c es)) → option_map mark_kind_seen mark ≡ mark_asked es
        → whole (Done mark)
    ends k b es mark below is of made marked = record {
      text = made ∙ ap (λ l. now ++ lines_text n l) (ap (λ v. lines_by i d (clause_seen k) c v (lines_from (i + 1))) of ∙ sym (lines_here k below is)) ∙ so_far.text;
      effects = ap Some marked ∙ sym (ap (option_map mark_asked) (by_outcome (outcome.matched es) (outcome_here k below is ∙ ap (λ v. outcome_after v (outcome_from (i + 1))) (sym of))));
    }

    -- none of them
    pub none_fires : length ks ≤ i → after ≡ now ++ lines_text n (said (codes "no clause fires") ∷ []) → whole Refused
    none_fires past made = record {
      text = made ∙ ap (λ js. now ++ lines_text n (clause_lines i d (map clause_seen js) c)) (sym (drop_all i ks past)) ∙ so_far.text;
      effects = sym (ap (option_map mark_asked) (by_outcome outcome.no_match (ap (λ js. outcome_by_verdicts d (map clause_seen js) c) (drop_all i ks past))));
    }

-- settings without clauses
pub is_off : (n : Name) (c : Context) (old new : List ℕ) → new ≡ old ++ lines_text n (said (codes "the setting is false") ∷ []) → GivesBySetting n off c old new Refused
is_off n c old new made = record { text = made; effects = refl }

pub is_plain : (n : Name) (c : Context) (old : List ℕ) → GivesBySetting n plain c old old (Done None)
is_plain n c old = record { text = nothing n old; effects = refl }
