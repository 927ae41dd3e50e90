-- What is done with a run that is asked for, and what each command writes of it (own).
-- Depends on the picks of a schedule, and on the output, the account, the states, the picture and the formats of a run.
use Rattle.std.specs.Prelude.{◌≡◌, ℕ, ◌||◌, Bool, not, List, Option, None}
use Rattle.def_script.specs.Program.{Program}
use Rattle.def_script.specs.Script.{Refusal}
use Rattle.def_message_choice.specs.ChosenAccounts.{AccountQuestion}
use Rattle.tn_formats.specs.declared.format.Format.{Format}
use Rattle.tn_moves.specs.Schedules.{ScheduleView, HasPicks, OfPicks, schedule_seen}
use Rattle.tn_run.specs.Answers.{IsRefusedRun}
use Rattle.tn_run.specs.Jobs.{JobView, failed_end}
use Rattle.tn_run.specs.declared.refusal_form.RefusalForm.{RefusalForm}
use Rattle.tn_run.specs.declared.refusal_form.RefusalForm.TheVariants.{Line, Nothing}
use Rattle.tn_run.specs.declared.fault.RunFault.{RunFault}
use Rattle.tn_replay.specs.Notes.{IsListedBy, is_listing, replay_refusal}
use Rattle.tn_replay.specs.declared.replay.Replay.{Replay}
use Rattle.tn_replay.specs.declared.replay.ReplayOutcome.{ReplayOutcome}
use Rattle.tn_replay.specs.declared.replay.ReplayOutcome.TheVariants as replays
use Rattle.tn_explain.specs.Accounts.{IsAnswer, explain_refusal, is_account}
use Rattle.tn_explain.specs.Filters.{account_question_seen}
use Rattle.tn_explain.specs.declared.request.ExplainRequest.{ExplainRequest}
use Rattle.tn_explain.specs.declared.request.ExplainOutcome.{ExplainOutcome}
use Rattle.tn_explain.specs.declared.request.ExplainOutcome.TheVariants as explained
use Rattle.tn_state.specs.Requests.{IsStateReport, is_state, state_refusal}
use Rattle.tn_state.specs.declared.request.StateQuestion.{StateQuestion}
use Rattle.tn_state.specs.declared.request.StateRequest.{StateRequest}
use Rattle.tn_state.specs.declared.request.StateOutcome.{StateOutcome}
use Rattle.tn_state.specs.declared.request.StateOutcome.TheVariants as states
use Rattle.tn_picture.specs.Requests.{draw_refusal, is_drawing, picture_text}
use Rattle.tn_picture.specs.declared.request.PictureFormat.{PictureFormat}
use Rattle.tn_picture.specs.declared.request.DrawRequest.{DrawRequest}
use Rattle.tn_picture.specs.declared.request.DrawOutcome.{DrawOutcome}
use Rattle.tn_picture.specs.declared.request.DrawOutcome.TheVariants as drawn
use Rattle.tn_command.specs.JobForms.{job_in, job_within}
use Rattle.tn_command.specs.declared.output_fault.OutputFault.{OutputFault}
use Rattle.tn_command.specs.declared.output_form.OutputForm.{OutputForm}
use Rattle.tn_request.specs.SchedulesAsked.{picks_asked, round_asked, run_asked}
use Rattle.tn_request.specs.declared.job.RequestJob.{RequestJob}
use Rattle.tn_request.specs.declared.job.RequestJob.TheVariants as jobs
use Rattle.tn_request.specs.declared.job.RequestOutcome.{RequestOutcome}
use Rattle.tn_request.specs.declared.job.RequestOutcome.TheVariants as outcomes
use Rattle.tn_request.specs.declared.request.RunRequest.{RunRequest}
use Rattle.tn_request.specs.declared.request.RunRequest.TheVariants as requests

-- a run is listed, with its notes or without, and says them or not; it is explained, as far as is asked; one of its states is written; or it is drawn
pub data Task : Type 0 where
  listing_task : ScheduleView → (has_notes quiet : Bool) → Task
  account_task : ScheduleView → AccountQuestion → Task
  state_task : ScheduleView → StateQuestion → Task
  drawing_task : ScheduleView → PictureFormat → Task

abbrev pub task_schedule : Task → ScheduleView
task_schedule (listing_task a has_notes quiet) = a
task_schedule (account_task a q) = a
task_schedule (state_task a q) = a
task_schedule (drawing_task a format) = a

-- what a request asks for, with the text that was read of its picks or its moves: a run has notes where they are said, or where a strict command line asks whether its commands were done
abbrev pub task_asked : RunRequest → (read : List ℕ) → Task
task_asked (requests.Replay script picks quiet e) read = listing_task (picks_asked picks read) (not quiet || e.strict) quiet
task_asked (requests.Explain script run filter message e) read = account_task (run_asked run read) (account_question_seen filter message)
task_asked (requests.State script run question e) read = state_task (run_asked run read) question
task_asked (requests.Draw script run format e) read = drawing_task (run_asked run read) format
task_asked (requests.Round script limit control_first quiet e) read = listing_task (round_asked limit control_first) (not quiet || e.strict) quiet

-- what each job of the code does
abbrev pub listing_of_replay : Replay → Task
listing_of_replay q = listing_task (schedule_seen q.schedule) q.has_notes q.quiet

abbrev pub account_of_request : ExplainRequest → Task
account_of_request q = account_task (schedule_seen q.schedule) (account_question_seen q.filter q.message)

abbrev pub state_of_request : StateRequest → Task
state_of_request q = state_task (schedule_seen q.schedule) q.question

abbrev pub drawing_of_request : DrawRequest → Task
drawing_of_request q = drawing_task (schedule_seen q.schedule) q.format

abbrev pub task_seen : RequestJob → Task
task_seen (jobs.Replay q) = listing_of_replay q
task_seen (jobs.Explain q) = account_of_request q
task_seen (jobs.State q) = state_of_request q
task_seen (jobs.Draw q) = drawing_of_request q

-- ---- what is written of a program by each outcome: nothing where its moves are refused

-- the output of its run by the picks that are asked, whose notes the outcome has
abbrev pub WritesListing : ScheduleView → (has_notes : Bool) → Program → ReplayOutcome → List ℕ → Type 0
WritesListing a has_notes p (replays.Listed notes) output = OfPicks a p (λ picks. IsListedBy has_notes p picks (replays.Listed notes) output)
WritesListing a has_notes p (replays.Refused r) output = IsRefusedRun a p r output

-- the account of its run by the picks that are asked, as far as is asked
abbrev pub WritesAccount : ScheduleView → AccountQuestion → Program → ExplainOutcome → List ℕ → Type 0
WritesAccount a q p explained.Account output = OfPicks a p (λ picks. IsAnswer p picks q explained.Account output)
WritesAccount a q p (explained.Refused r) output = IsRefusedRun a p r output
WritesAccount a q p explained.NoSession output = OfPicks a p (λ picks. IsAnswer p picks q explained.NoSession output)
WritesAccount a q p explained.NoMove output = OfPicks a p (λ picks. IsAnswer p picks q explained.NoMove output)
WritesAccount a q p explained.NoDifference output = OfPicks a p (λ picks. IsAnswer p picks q explained.NoDifference output)
WritesAccount a q p explained.NoMessage output = OfPicks a p (λ picks. IsAnswer p picks q explained.NoMessage output)

-- the state of its run by the picks that are asked, as far as is asked
abbrev pub WritesState : ScheduleView → StateQuestion → Program → StateOutcome → List ℕ → Type 0
WritesState a q p states.State output = OfPicks a p (λ picks. IsStateReport p picks q states.State output)
WritesState a q p (states.Refused r) output = IsRefusedRun a p r output
WritesState a q p states.NoSession output = OfPicks a p (λ picks. IsStateReport p picks q states.NoSession output)
WritesState a q p states.NoMove output = OfPicks a p (λ picks. IsStateReport p picks q states.NoMove output)

-- the picture of its run by the picks that are asked
abbrev pub WritesDrawing : ScheduleView → PictureFormat → Program → DrawOutcome → List ℕ → Type 0
WritesDrawing a format p drawn.Drawn output = OfPicks a p (λ picks. output ≡ picture_text format p picks)
WritesDrawing a format p (drawn.Refused r) output = IsRefusedRun a p r output

-- each task has outcomes of its own
abbrev pub IsDoneBy : Task → Program → RequestOutcome → List ℕ → Type 0
IsDoneBy (listing_task a has_notes quiet) p (outcomes.Replay outcome) output = WritesListing a has_notes p outcome output
IsDoneBy (listing_task a has_notes quiet) p outcome output = ⊥
IsDoneBy (account_task a q) p (outcomes.Explain outcome) output = WritesAccount a q p outcome output
IsDoneBy (account_task a q) p outcome output = ⊥
IsDoneBy (state_task a q) p (outcomes.State outcome) output = WritesState a q p outcome output
IsDoneBy (state_task a q) p outcome output = ⊥
IsDoneBy (drawing_task a format) p (outcomes.Draw outcome) output = WritesDrawing a format p outcome output
IsDoneBy (drawing_task a format) p outcome output = ⊥

-- the refusal of a text that an outcome is
abbrev pub request_refusal : RequestOutcome → Option Refusal
request_refusal (outcomes.Replay outcome) = replay_refusal outcome
request_refusal (outcomes.Explain outcome) = explain_refusal outcome
request_refusal (outcomes.State outcome) = state_refusal outcome
request_refusal (outcomes.Draw outcome) = draw_refusal outcome

-- the outcome is what was asked for
abbrev pub is_request_success : RequestOutcome → Bool
is_request_success (outcomes.Replay outcome) = is_listing outcome
is_request_success (outcomes.Explain outcome) = is_account outcome
is_request_success (outcomes.State outcome) = is_state outcome
is_request_success (outcomes.Draw outcome) = is_drawing outcome

-- what is written for a refusal: nothing in place of a picture
abbrev pub task_refusals : Task → RefusalForm
task_refusals (listing_task a has_notes quiet) = Line
task_refusals (account_task a q) = Line
task_refusals (state_task a q) = Line
task_refusals (drawing_task a format) = Nothing

abbrev pub task_job : Task → JobView RequestOutcome RunFault
task_job task = record {
  of_program = IsDoneBy task;
  refusal_in = request_refusal;
  refusal_form = task_refusals task;
  succeeds = is_request_success;
  has = λ outcome. Unit {0};
  reads = HasPicks (task_schedule task);
  end_of = failed_end;
}

-- ---- in a form

-- a picture has a format of its own
abbrev pub format_asked : RunRequest → Option Format → Option Format
format_asked (requests.Replay script picks quiet e) format = format
format_asked (requests.Explain script run filter message e) format = format
format_asked (requests.State script run question e) format = format
format_asked (requests.Draw script run picture e) format = None
format_asked (requests.Round script limit control_first quiet e) format = format

-- the job of a request, with the text that was read of its picks or its moves: what its task writes, in the format that is asked for, where it has at most so many bytes
abbrev pub job_asked : RunRequest → (read : List ℕ) → OutputForm → JobView RequestOutcome (OutputFault RunFault)
job_asked request read form = job_within form.most (job_in (format_asked request form.format) (task_job (task_asked request read)))
