-- Two ends of one job: where both are outcomes, or both are faults, the statuses are one.
use Rattle.std.proofs.Common.{◌≡◌, ◌∙◌, ℕ, List, Option, None, Some, MatchOption, Result, Ok, Err, IfOk, is_ok, if◌then◌else◌, sym, ap}
use Rattle.def_script.specs.Program.{Program}
use Rattle.def_script.specs.Script.{Refusal}
use Rattle.tn_run.specs.Answers.{is_listed}
use Rattle.tn_run.specs.Jobs.{Gives, IsJobRefusal, JobView, OfScript}
use Rattle.tn_run.specs.RefusalForms.{IsRefusalOutput, text_of_refusal}
use Rattle.tn_run.specs.declared.live.Ran.{Ran}
use Rattle.tn_explain.specs.Accounts.{explain_by}
use Rattle.tn_replay.specs.Notes.{replay_by}
use Rattle.tn_explain.specs.declared.request.ExplainRequest.{ExplainRequest}
use Rattle.tn_replay.specs.declared.replay.Replay.{Replay}
use Rattle.tn_state.specs.Requests.{state_by}
use Rattle.tn_state.specs.declared.request.StateRequest.{StateRequest}
use Rattle.tn_picture.specs.Requests.{draw_by}
use Rattle.tn_picture.specs.declared.request.DrawRequest.{DrawRequest}
use Rattle.tn_command.specs.JobForms.{HasAtMost, job_within}
use Rattle.tn_command.specs.Status.{LISTED_STATUS, REFUSED_STATUS, status_of}
use Rattle.complete_workers.specs.Runs.{AreOfOneText}
use Rattle.complete_explain.proofs.OneExplanation.{explains_or_not, one_explanation}
use Rattle.complete_explain.proofs.OneNote.{replays_are_one, replays_or_not}
use Rattle.complete_state.proofs.OneState.{one_state, shows_or_not}
use Rattle.complete_picture.proofs.OneDrawing.{draws_or_not, one_drawing}
use Rattle.complete_command.specs.Jobs.{HasOneAnswer}

pub same_status : {O F : Type 0} (job : JobView O F) (n m : ℕ) (r q : Result O F) → n ≡ status_of job r → m ≡ status_of job q
    → IfOk r (λ o. IfOk q (λ u. job.succeeds o ≡ job.succeeds u)) → is_ok r ≡ is_ok q → n ≡ m
same_status job n m (Ok o) (Ok u) e f same both = e ∙ ap (λ b. if b then LISTED_STATUS else REFUSED_STATUS) same ∙ sym f
same_status job n m (Ok o) (Err d) e f same both = absurd (cc both)
same_status job n m (Err d) (Ok u) e f same both = absurd (cc both)
same_status job n m (Err d) (Err b) e f same both = e ∙ sym f

-- two runs of one text by workers succeed alike
pub succeed_alike : {F : Type 0} (r q : Result Ran F) → IfOk r (λ x. IfOk q (AreOfOneText x)) → IfOk r (λ x. IfOk q (λ y. is_listed x.outcome ≡ is_listed y.outcome))
succeed_alike (Ok x) (Ok y) h = ap is_listed h.outcome
succeed_alike (Ok x) (Err d) h = tt
succeed_alike (Err d) q h = tt

-- ---- a bound

unbound : (P : Program → Type 0) (W : Type 0) (B : Refusal → Type 0) (bytes : List ℕ) (r : Option Refusal) → MatchOption r (OfScript bytes (λ p. P p × W)) B → MatchOption r (OfScript bytes P) B
unbound P W B bytes None h = record { program = h.program; accepted = h.accepted; output = h.output.0 }
unbound P W B bytes (Some r) h = h

-- what a job gives within a bound, it gives without one
gives_unbound : {O F : Type 0} (most : ℕ) (job : JobView O F) (bytes : List ℕ) (o : O) (x : List ℕ) → Gives (job_within most job) bytes o x → Gives job bytes o x
gives_unbound most job bytes o x h =
    unbound (λ p. job.of_program p o x) (HasAtMost most x) (λ r. IsJobRefusal job.reads bytes r × IsRefusalOutput job.refusal_form (text_of_refusal r bytes) r x) bytes (job.refusal_in o) h

pub within_has_one : {O F : Type 0} (most : ℕ) (job : JobView O F) → HasOneAnswer job → HasOneAnswer (job_within most job)
within_has_one most job one = record {
  answer = λ bytes o u x y h i. one.answer bytes o u x y (gives_unbound most job bytes o x h) (gives_unbound most job bytes u y i);
  reads = λ bytes o x h. one.reads bytes o x (gives_unbound most job bytes o x h);
}

-- ---- the jobs of the commands

pub replay_has_one : (job : Replay) → HasOneAnswer (replay_by job)
replay_has_one job = record {
  answer = λ bytes o u x y h i. replays_are_one bytes job o u x y h i;
  reads = λ bytes o x h. replays_or_not bytes job o x h;
}

pub explanation_has_one : (request : ExplainRequest) → HasOneAnswer (explain_by request)
explanation_has_one request = record {
  answer = λ bytes o u x y h i. one_explanation bytes request o u x y h i;
  reads = λ bytes o x h. explains_or_not bytes request o x h;
}

pub state_has_one : (request : StateRequest) → HasOneAnswer (state_by request)
state_has_one request = record {
  answer = λ bytes o u x y h i. one_state bytes request o u x y h i;
  reads = λ bytes o x h. shows_or_not bytes request o x h;
}

pub drawing_has_one : (request : DrawRequest) → HasOneAnswer (draw_by request)
drawing_has_one request = record {
  answer = λ bytes o u x y h i. one_drawing bytes request o u x y h i;
  reads = λ bytes o x h. draws_or_not bytes request o x h;
}
