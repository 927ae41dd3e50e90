-- Which outcomes of a run that is asked for a strict command line takes as a fault of the script (own).
use Rattle.std.specs.Prelude.{◌≡◌, ℕ, Bool, false, ◌||◌, List, Some, None}
use Rattle.def_explain.specs.EmptyScripts.{is_gap}
use Rattle.tn_run.specs.Jobs.{OfScript}
use Rattle.tn_moves.specs.Schedules.{OfPicks, ScheduleView}
use Rattle.tn_replay.specs.declared.replay.ReplayOutcome.{ReplayOutcome}
use Rattle.tn_replay.specs.declared.replay.ReplayOutcome.TheVariants as replayed
use Rattle.tn_explain.specs.declared.request.ExplainOutcome.{ExplainOutcome}
use Rattle.tn_explain.specs.declared.request.ExplainOutcome.TheVariants as explained
use Rattle.tn_state.specs.declared.request.StateOutcome.{StateOutcome}
use Rattle.tn_state.specs.declared.request.StateOutcome.TheVariants as states
use Rattle.tn_picture.specs.declared.request.DrawOutcome.{DrawOutcome}
use Rattle.tn_picture.specs.declared.request.DrawOutcome.TheVariants as drawn
use Rattle.tn_command.specs.Flaws.{IsNoFlaw, has_flaw}
use Rattle.tn_request.specs.Tasks.{Task, listing_task, account_task, state_task, drawing_task, task_asked}
use Rattle.tn_request.specs.declared.job.RequestOutcome.{RequestOutcome}
use Rattle.tn_request.specs.declared.job.RequestOutcome.TheVariants as outcomes
use Rattle.tn_request.specs.declared.request.RunRequest.{RunRequest}

-- it is said of the script with these bytes whether it has no forms, or a command of its run by the picks that are asked is refused, matches no function or has a trap
abbrev pub IsFlawOf : ScheduleView → List ℕ → Bool → Type 0
IsFlawOf a bytes flawed = OfScript bytes (λ p. OfPicks a p (λ picks. flawed ≡ has_flaw bytes p picks))

-- of a run that is listed; its notes say whether a command is refused, matches no function or has a trap
abbrev pub IsListingFlaw : ScheduleView → ReplayOutcome → List ℕ → Bool → Type 0
IsListingFlaw a (replayed.Listed None) bytes flawed = IsFlawOf a bytes flawed
IsListingFlaw a (replayed.Listed (Some notes)) bytes flawed = flawed ≡ (is_gap false bytes || notes.has_remarks)
IsListingFlaw a (replayed.Refused r) bytes flawed = IsNoFlaw flawed

-- of a run that is explained
abbrev pub IsAccountFlaw : ScheduleView → ExplainOutcome → List ℕ → Bool → Type 0
IsAccountFlaw a explained.Account bytes flawed = IsFlawOf a bytes flawed
IsAccountFlaw a (explained.Refused r) bytes flawed = IsNoFlaw flawed
IsAccountFlaw a explained.NoSession bytes flawed = IsFlawOf a bytes flawed
IsAccountFlaw a explained.NoMove bytes flawed = IsFlawOf a bytes flawed
IsAccountFlaw a explained.NoDifference bytes flawed = IsFlawOf a bytes flawed
IsAccountFlaw a explained.NoMessage bytes flawed = IsFlawOf a bytes flawed

-- of a run whose state is asked for
abbrev pub IsStateTaskFlaw : ScheduleView → StateOutcome → List ℕ → Bool → Type 0
IsStateTaskFlaw a states.State bytes flawed = IsFlawOf a bytes flawed
IsStateTaskFlaw a (states.Refused r) bytes flawed = IsNoFlaw flawed
IsStateTaskFlaw a states.NoSession bytes flawed = IsFlawOf a bytes flawed
IsStateTaskFlaw a states.NoMove bytes flawed = IsFlawOf a bytes flawed

-- of a run that is drawn
abbrev pub IsDrawingFlaw : ScheduleView → DrawOutcome → List ℕ → Bool → Type 0
IsDrawingFlaw a drawn.Drawn bytes flawed = IsFlawOf a bytes flawed
IsDrawingFlaw a (drawn.Refused r) bytes flawed = IsNoFlaw flawed

-- of each task; an outcome of another task is no flaw
abbrev pub IsTaskFlaw : Task → RequestOutcome → List ℕ → Bool → Type 0
IsTaskFlaw (listing_task a has_notes quiet) (outcomes.Replay outcome) bytes flawed = IsListingFlaw a outcome bytes flawed
IsTaskFlaw (listing_task a has_notes quiet) outcome bytes flawed = IsNoFlaw flawed
IsTaskFlaw (account_task a q) (outcomes.Explain outcome) bytes flawed = IsAccountFlaw a outcome bytes flawed
IsTaskFlaw (account_task a q) outcome bytes flawed = IsNoFlaw flawed
IsTaskFlaw (state_task a q) (outcomes.State outcome) bytes flawed = IsStateTaskFlaw a outcome bytes flawed
IsTaskFlaw (state_task a q) outcome bytes flawed = IsNoFlaw flawed
IsTaskFlaw (drawing_task a format) (outcomes.Draw outcome) bytes flawed = IsDrawingFlaw a outcome bytes flawed
IsTaskFlaw (drawing_task a format) outcome bytes flawed = IsNoFlaw flawed

-- of the task of a request, with the text that was read of its picks or its moves
abbrev pub flaw_asked : RunRequest → (read : List ℕ) → RequestOutcome → List ℕ → Bool → Type 0
flaw_asked request read = IsTaskFlaw (task_asked request read)
