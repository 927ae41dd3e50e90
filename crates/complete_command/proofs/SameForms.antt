-- A run by workers whose output is in a form gives one outcome of one text, and for the same picks one output.
use Rattle.std.proofs.Common.{◌≡◌, ◌∙◌, ℕ, List, MatchOption, refl, ap₂, sym}
use Rattle.def_run.specs.Output.{refusal_text}
use Rattle.tn_moves.specs.Schedules.{by_workers}
use Rattle.tn_run.specs.Answers.{IsListedOutput, live_run, outcome_refusal, run_for}
use Rattle.tn_run.specs.Jobs.{Gives, IsJobRefusal, OfScript}
use Rattle.tn_run.specs.declared.outcome.Outcome.{Outcome}
use Rattle.tn_run.specs.declared.outcome.Outcome.TheVariants.{Listed, Refused}
use Rattle.tn_run.specs.declared.outcome.RunRefusal.TheVariants.{Text, Moves}
use Rattle.tn_run.specs.declared.live.Ran.{Ran}
use Rattle.tn_command.specs.JobForms.{HasAtMost, IsTextIn, job_in_form, text_in_format}
use Rattle.tn_command.specs.declared.output_form.OutputForm.{OutputForm}
use Rattle.complete_workers.proofs.SameRuns.{IsByPicks, live_by_picks}

-- a listing in the format, and a refusal's line as it is
abbrev text_in_form : OutputForm → Outcome → List ℕ → List ℕ
text_in_form form Listed plain = text_in_format form.format plain
text_in_form form (Refused r) plain = plain

-- what is given in the form
abbrev GivesForm : OutputForm → (bytes made : List ℕ) → Outcome → List ℕ → Type 0
GivesForm form bytes made o x =
    MatchOption (outcome_refusal o) (OfScript bytes (λ p. IsTextIn form.format (IsListedOutput (by_workers made) p o) x × HasAtMost form.most x)) (λ r. IsJobRefusal (Unit {0}) bytes r × (x ≡ refusal_text r))

-- the plain output of which it is the text in the form
record OfPlain (form : OutputForm) (bytes made : List ℕ) (o : Outcome) (x : List ℕ) : Type 0 where
  pub plain : List ℕ
  pub given : Gives (run_for (by_workers made)) bytes o plain
  pub text_is : x ≡ text_in_form form o plain

of_plain : (form : OutputForm) (bytes made : List ℕ) (o : Outcome) (x : List ℕ) → GivesForm form bytes made o x → OfPlain form bytes made o x
of_plain form bytes made Listed x h = record {
  plain = h.output.0.plain;
  given = record { program = h.program; accepted = h.accepted; output = h.output.0.is_plain };
  text_is = h.output.0.text_is;
}
of_plain form bytes made (Refused (Text r)) x h = record { plain = x; given = h; text_is = refl }
of_plain form bytes made (Refused (Moves r)) x h = absurd h.output.0.is_plain.0

-- of what workers made
plain_of : (form : OutputForm) (bytes : List ℕ) (r : Ran) (x : List ℕ) → Gives (job_in_form form live_run) bytes r x → OfPlain form bytes r.picks.items r.outcome x
plain_of form bytes r x h = of_plain form bytes r.picks.items r.outcome x h

form_outcome : (form : OutputForm) (bytes : List ℕ) (r q : Ran) (x y : List ℕ) → Gives (job_in_form form live_run) bytes r x → Gives (job_in_form form live_run) bytes q y → r.outcome ≡ q.outcome
form_outcome form bytes r q x y h i =
    let one = plain_of form bytes r x h in
    let two = plain_of form bytes q y i in
    live_by_picks.outcome bytes r q one.plain two.plain one.given two.given

form_output : (form : OutputForm) (bytes : List ℕ) (r q : Ran) (x y : List ℕ) → r.picks.items ≡ q.picks.items → Gives (job_in_form form live_run) bytes r x → Gives (job_in_form form live_run) bytes q y → x ≡ y
form_output form bytes r q x y e h i =
    let one = plain_of form bytes r x h in
    let two = plain_of form bytes q y i in
    one.text_is ∙ ap₂ (text_in_form form) (form_outcome form bytes r q x y h i) (live_by_picks.output bytes r q one.plain two.plain e one.given two.given) ∙ sym two.text_is

pub form_by_picks : (form : OutputForm) → IsByPicks (job_in_form form live_run)
form_by_picks form = record { outcome = form_outcome form; output = form_output form; picks = λ r h. h }
