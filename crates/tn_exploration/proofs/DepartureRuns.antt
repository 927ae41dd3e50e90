-- Whether a run departs from a trace.
use Rattle.std.proofs.Common.{◌≡◌, ◌∙◌, ◌⊎◌, inl, inr, codes, ℕ, Bool, true, false, List, ◌++◌, Option, Some, None, not, ◌&&◌, ◌||◌, OnOk, ap, append_assoc, refl, sym}
use Rattle.std.proofs.lemmas.Result.{on_ok_weaker}
use Rattle.std.specs.Prelude.{Result, is_some, if◌then◌else◌}
use Rattle.def_explore.specs.Answers.{RestEntry}
use Rattle.def_compare.specs.Traces.{TraceQuestion, begins_trace}
use Rattle.def_compare.specs.Entries.{Match, Prefix}
use Rattle.def_term.specs.Names.{Name}
use Rattle.def_script.specs.Program.{Program}
use Rattle.def_departure.specs.Departures.{departure_by, departure_text, departure_unless, first_name, last_move_text}
use Rattle.tn_answers.specs.SearchAnswers.{form_seen}
use Rattle.tn_answers.specs.declared.form.AnswerForm.{AnswerForm}
use Rattle.tn_answers.specs.declared.form.AnswerForm.TheVariants.{Plain, Summary, Json}

-- a text after a heading, appended together
pub after_heading : {T E : Type 0} (r : Result T E) (new old heading last : List ℕ) → OnOk r (new ≡ (old ++ heading) ++ last) → OnOk r (new ≡ old ++ (heading ++ last))
after_heading r new old heading last = on_ok_weaker r (λ is. is ∙ append_assoc old heading last)

module _ (a : TraceQuestion) (f : Prefix) where
  -- one that begins the trace doesn't
  pub no_departure : begins_trace a.messages f.by.entry.kept ≡ true → None ≡ departure_by a (Some f)
  no_departure is = sym (ap (λ b. if b then None else Some f.by.entry.journal) is)

  -- and any other does
  pub is_departure : begins_trace a.messages f.by.entry.kept ≡ false → Some f.by.entry.journal ≡ departure_by a (Some f)
  is_departure is = sym (ap (λ b. if b then None else Some f.by.entry.journal) is)

module _ (a : TraceQuestion) (es : List RestEntry) where
  -- where a run shows the trace, none departs
  pub none_with_run : (o : Option Match) (whole settled unmet : Bool) → settled ≡ (whole || is_some o) → unmet ≡ (whole && not (is_some o)) → (settled && not unmet) ≡ true
      → None ≡ departure_unless o a es
  none_with_run (Some m) whole settled unmet is but so = refl
  none_with_run None true true true is but so = cc
  none_with_run None true true false is but so = cc
  none_with_run None true false unmet is but so = cc
  none_with_run None false true unmet is but so = cc
  none_with_run None false false unmet is but so = cc

  -- where none shows it, that of the longest prefix can
  pub some_without_run : (o : Option Match) (whole settled unmet : Bool) → settled ≡ (whole || is_some o) → unmet ≡ (whole && not (is_some o)) → (settled && not unmet) ≡ false
      → departure_unless None a es ≡ departure_unless o a es
  some_without_run None whole settled unmet is but so = refl
  some_without_run (Some m) true true true is but so = cc
  some_without_run (Some m) true true false is but so = cc
  some_without_run (Some m) true false unmet is but so = cc
  some_without_run (Some m) false true true is but so = cc
  some_without_run (Some m) false true false is but so = cc
  some_without_run (Some m) false false unmet is but so = cc

-- lines for a reader have the heading and the account of the last move, whether the listings are summarized or not
pub line_departure : (form : AnswerForm) (ss : List (Name × Name)) (p : Program) (journal : List ℕ) → ((form ≡ Plain) ⊎ (form ≡ Summary))
    → codes "== explained\n" ++ last_move_text (first_name ss) p journal ≡ departure_text (form_seen form) ss p (Some journal)
line_departure Plain ss p journal is = refl
line_departure Summary ss p journal is = refl
line_departure Json ss p journal (inl is) = cc
line_departure Json ss p journal (inr is) = cc
