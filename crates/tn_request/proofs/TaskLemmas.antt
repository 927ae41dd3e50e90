-- What a job of one command gives is what its task gives.
use Rattle.std.proofs.Common.{◌≡◌, ℕ, Bool, List, Option, subst}
use Rattle.def_script.specs.Program.{Program}
use Rattle.tn_run.specs.Jobs.{GivesMore, IsProgramAnswer, JobView}
use Rattle.tn_replay.specs.Notes.{IsReplayed, replay_by}
use Rattle.tn_replay.specs.declared.replay.Replay.{Replay}
use Rattle.tn_replay.specs.declared.replay.ReplayOutcome.{ReplayOutcome}
use Rattle.tn_replay.specs.declared.replay.ReplayOutcome.TheVariants as replays
use Rattle.tn_explain.specs.Accounts.{IsExplanation, explain_by}
use Rattle.tn_explain.specs.declared.request.ExplainRequest.{ExplainRequest}
use Rattle.tn_explain.specs.declared.request.ExplainOutcome.{ExplainOutcome}
use Rattle.tn_explain.specs.declared.request.ExplainOutcome.TheVariants as explained
use Rattle.tn_state.specs.Requests.{IsShown, state_by}
use Rattle.tn_state.specs.declared.request.StateRequest.{StateRequest}
use Rattle.tn_state.specs.declared.request.StateOutcome.{StateOutcome}
use Rattle.tn_state.specs.declared.request.StateOutcome.TheVariants as states
use Rattle.tn_picture.specs.Requests.{IsDrawn, draw_by}
use Rattle.tn_picture.specs.declared.request.DrawRequest.{DrawRequest}
use Rattle.tn_picture.specs.declared.request.DrawOutcome.{DrawOutcome}
use Rattle.tn_picture.specs.declared.request.DrawOutcome.TheVariants as drawn
use Rattle.tn_formats.specs.declared.format.Format.{Format}
use Rattle.tn_run.specs.declared.fault.RunFault.{RunFault}
use Rattle.tn_command.specs.JobForms.{job_in, job_within}
use Rattle.tn_command.specs.declared.output_fault.OutputFault.{OutputFault}
use Rattle.tn_command.specs.declared.output_form.OutputForm.{OutputForm}
use Rattle.tn_request.specs.TaskFlaws.{IsTaskFlaw, flaw_asked}
use Rattle.tn_request.specs.Tasks.{IsDoneBy, Task, account_of_request, drawing_of_request, format_asked, job_asked, listing_of_replay, state_of_request, task_asked, task_job}
use Rattle.tn_request.specs.declared.job.RequestOutcome.{RequestOutcome}
use Rattle.tn_request.specs.declared.job.RequestOutcome.TheVariants as outcomes
use Rattle.tn_request.specs.declared.request.RunRequest.{RunRequest}

listing_done : (q : Replay) (p : Program) (o : ReplayOutcome) (output : List ℕ) → IsReplayed q p o output → IsDoneBy (listing_of_replay q) p (outcomes.Replay o) output
listing_done q p (replays.Listed notes) output h = record { picks = h.picks; given = h.given; so = (h.listing, h.wanted) }
listing_done q p (replays.Refused r) output h = h

account_done : (q : ExplainRequest) (p : Program) (o : ExplainOutcome) (output : List ℕ) → IsExplanation q p o output → IsDoneBy (account_of_request q) p (outcomes.Explain o) output
account_done q p explained.Account output h = record { picks = h.picks; given = h.given; so = h.answer }
account_done q p (explained.Refused r) output h = h
account_done q p explained.NoSession output h = record { picks = h.picks; given = h.given; so = h.answer }
account_done q p explained.NoMove output h = record { picks = h.picks; given = h.given; so = h.answer }
account_done q p explained.NoDifference output h = record { picks = h.picks; given = h.given; so = h.answer }
account_done q p explained.NoMessage output h = record { picks = h.picks; given = h.given; so = h.answer }

state_done : (q : StateRequest) (p : Program) (o : StateOutcome) (output : List ℕ) → IsShown q p o output → IsDoneBy (state_of_request q) p (outcomes.State o) output
state_done q p states.State output h = record { picks = h.picks; given = h.given; so = h.answer }
state_done q p (states.Refused r) output h = h
state_done q p states.NoSession output h = record { picks = h.picks; given = h.given; so = h.answer }
state_done q p states.NoMove output h = record { picks = h.picks; given = h.given; so = h.answer }

drawing_done : (q : DrawRequest) (p : Program) (o : DrawOutcome) (output : List ℕ) → IsDrawn q p o output → IsDoneBy (drawing_of_request q) p (outcomes.Draw o) output
drawing_done q p drawn.Drawn output h = record { picks = h.picks; given = h.given; so = h.drawing }
drawing_done q p (drawn.Refused r) output h = h

pub lists_so : (q : Replay) (p : Program) (o : ReplayOutcome) (output : List ℕ) → IsProgramAnswer (replay_by q) p o output
    → IsProgramAnswer (task_job (listing_of_replay q)) p (outcomes.Replay o) output
lists_so q p o output h = record { given = listing_done q p o output h.given; accepted = h.accepted; outcome_has = tt }

pub lists_more : (most : ℕ) (q : Replay) (p : Program) → GivesMore most (replay_by q) p → GivesMore most (task_job (listing_of_replay q)) p
lists_more most q p h = record { outcome = outcomes.Replay h.outcome; output = h.output; given = listing_done q p h.outcome h.output h.given; exceeds = h.exceeds }

pub explains_so : (q : ExplainRequest) (p : Program) (o : ExplainOutcome) (output : List ℕ) → IsProgramAnswer (explain_by q) p o output
    → IsProgramAnswer (task_job (account_of_request q)) p (outcomes.Explain o) output
explains_so q p o output h = record { given = account_done q p o output h.given; accepted = h.accepted; outcome_has = tt }

pub shows_so : (q : StateRequest) (p : Program) (o : StateOutcome) (output : List ℕ) → IsProgramAnswer (state_by q) p o output
    → IsProgramAnswer (task_job (state_of_request q)) p (outcomes.State o) output
shows_so q p o output h = record { given = state_done q p o output h.given; accepted = h.accepted; outcome_has = tt }

pub draws_so : (q : DrawRequest) (p : Program) (o : DrawOutcome) (output : List ℕ) → IsProgramAnswer (draw_by q) p o output
    → IsProgramAnswer (task_job (drawing_of_request q)) p (outcomes.Draw o) output
draws_so q p o output h = record { given = drawing_done q p o output h.given; accepted = h.accepted; outcome_has = tt }

-- what holds of the job of this task in this format holds of the job that is asked for, where they are those that are asked for
pub asked_along : (request : RunRequest) (read : List ℕ) (form : OutputForm) (format : Option Format) (task : Task) (P : JobView RequestOutcome (OutputFault RunFault) → Type 0)
    → format ≡ format_asked request form.format → task ≡ task_asked request read → P (job_within form.most (job_in format (task_job task))) → P (job_asked request read form)
asked_along request read form format task P is_format is_task h =
    subst (λ t. P (job_within form.most (job_in (format_asked request form.format) (task_job t)))) is_task
    (subst (λ f. P (job_within form.most (job_in f (task_job task)))) is_format h)

-- what holds of such a job and of its flaw holds of those that are asked for
pub both_asked : (request : RunRequest) (read : List ℕ) (form : OutputForm) (format : Option Format) (task : Task)
    (P : JobView RequestOutcome (OutputFault RunFault) → (RequestOutcome → List ℕ → Bool → Type 0) → Type 0)
    → format ≡ format_asked request form.format → task ≡ task_asked request read → P (job_within form.most (job_in format (task_job task))) (IsTaskFlaw task)
    → P (job_asked request read form) (flaw_asked request read)
both_asked request read form format task P is_format is_task h =
    subst (λ t. P (job_within form.most (job_in (format_asked request form.format) (task_job t))) (IsTaskFlaw t)) is_task
    (subst (λ f. P (job_within form.most (job_in f (task_job task))) (IsTaskFlaw task)) is_format h)
