-- Which outcomes a strict command line takes as a fault of the script (own): a command that the run took is refused or
-- matches no function, or the script has no forms.
-- Depends on what is remarked of a run, and on which picks are given.
use Rattle.std.specs.Prelude.{◌≡◌, ℕ, Bool, true, false, ◌||◌, List, Option, Some, None, Result, Ok, Err}
use Rattle.def_script.specs.Program.{Program}
use Rattle.def_explain.specs.EmptyScripts.{is_gap}
use Rattle.def_explain.specs.Remarks.{has_remarks}
use Rattle.tn_text.specs.Watch.{watched_inner}
use Rattle.tn_text.specs.declared.watched.Watched.{Watched}
use Rattle.tn_run.specs.Jobs.{OfScript}
use Rattle.tn_run.specs.declared.outcome.Outcome.{Outcome}
use Rattle.tn_run.specs.declared.outcome.Outcome.TheVariants as listing
use Rattle.tn_run.specs.declared.live.Ran.{Ran}
use Rattle.tn_moves.specs.Schedules.{OfPicks, schedule_seen}
use Rattle.tn_moves.specs.declared.schedule.Schedule.{Schedule}
use Rattle.tn_replay.specs.declared.replay.Replay.{Replay}
use Rattle.tn_replay.specs.declared.replay.ReplayOutcome.{ReplayOutcome}
use Rattle.tn_replay.specs.declared.replay.ReplayOutcome.TheVariants as replayed
use Rattle.tn_explain.specs.declared.request.ExplainRequest.{ExplainRequest}
use Rattle.tn_explain.specs.declared.request.ExplainOutcome.{ExplainOutcome}
use Rattle.tn_explain.specs.declared.request.ExplainOutcome.TheVariants as explained
use Rattle.tn_state.specs.declared.request.StateRequest.{StateRequest}
use Rattle.tn_state.specs.declared.request.StateOutcome.{StateOutcome}
use Rattle.tn_state.specs.declared.request.StateOutcome.TheVariants as states
use Rattle.tn_picture.specs.declared.request.DrawRequest.{DrawRequest}
use Rattle.tn_picture.specs.declared.request.DrawOutcome.{DrawOutcome}
use Rattle.tn_picture.specs.declared.request.DrawOutcome.TheVariants as drawn
use Rattle.tn_command.specs.Ends.{last_error_inner, tee_text}
use Rattle.tn_command.specs.declared.jobs.NamedScript.{NamedScript}
use Rattle.tn_command.specs.declared.status.JobEnd.{JobEnd}
use Rattle.tn_command.specs.declared.last_error.LastError.{LastError}
use Rattle.tn_command.specs.declared.tee.Tee.{Tee}

-- the script has no forms, or a command of its run by these picks is refused, matches no function or has a trap
abbrev pub has_flaw : List ℕ → Program → List ℕ → Bool
has_flaw bytes p picks = is_gap false bytes || has_remarks p picks

-- it is said of the script with these bytes and of these picks whether that is so
abbrev pub IsFlawBy : List ℕ → List ℕ → Bool → Type 0
IsFlawBy picks bytes flawed = OfScript bytes (λ p. flawed ≡ has_flaw bytes p picks)

-- of the picks that a schedule asks for
abbrev pub IsScheduleFlaw : Schedule → List ℕ → Bool → Type 0
IsScheduleFlaw schedule bytes flawed = OfScript bytes (λ p. OfPicks (schedule_seen schedule) p (λ picks. flawed ≡ has_flaw bytes p picks))

-- ---- of each outcome of a job; a refusal is no flaw

abbrev pub IsNoFlaw : Bool → Type 0
IsNoFlaw flawed = flawed ≡ false

-- a run by a schedule, whose notes say whether a command is refused, matches no function or has a trap
abbrev pub IsReplayFlaw : Replay → ReplayOutcome → List ℕ → Bool → Type 0
IsReplayFlaw q (replayed.Listed None) bytes flawed = IsScheduleFlaw q.schedule bytes flawed
IsReplayFlaw q (replayed.Listed (Some notes)) bytes flawed = flawed ≡ (is_gap false bytes || notes.has_remarks)
IsReplayFlaw q (replayed.Refused r) bytes flawed = IsNoFlaw flawed

-- a run by workers
abbrev pub IsOutcomeFlaw : List ℕ → Outcome → List ℕ → Bool → Type 0
IsOutcomeFlaw picks listing.Listed bytes flawed = IsFlawBy picks bytes flawed
IsOutcomeFlaw picks (listing.Refused r) bytes flawed = IsNoFlaw flawed

abbrev pub IsWorkersFlaw : Ran → List ℕ → Bool → Type 0
IsWorkersFlaw ran bytes flawed = IsOutcomeFlaw ran.picks.items ran.outcome bytes flawed

-- a run that is explained
abbrev pub IsExplainedFlaw : ExplainRequest → ExplainOutcome → List ℕ → Bool → Type 0
IsExplainedFlaw q explained.Account bytes flawed = IsScheduleFlaw q.schedule bytes flawed
IsExplainedFlaw q (explained.Refused r) bytes flawed = IsNoFlaw flawed
IsExplainedFlaw q explained.NoSession bytes flawed = IsScheduleFlaw q.schedule bytes flawed
IsExplainedFlaw q explained.NoMove bytes flawed = IsScheduleFlaw q.schedule bytes flawed
IsExplainedFlaw q explained.NoDifference bytes flawed = IsScheduleFlaw q.schedule bytes flawed
IsExplainedFlaw q explained.NoMessage bytes flawed = IsScheduleFlaw q.schedule bytes flawed

-- a run whose state is asked for
abbrev pub IsStateFlaw : StateRequest → StateOutcome → List ℕ → Bool → Type 0
IsStateFlaw q states.State bytes flawed = IsScheduleFlaw q.schedule bytes flawed
IsStateFlaw q (states.Refused r) bytes flawed = IsNoFlaw flawed
IsStateFlaw q states.NoSession bytes flawed = IsScheduleFlaw q.schedule bytes flawed
IsStateFlaw q states.NoMove bytes flawed = IsScheduleFlaw q.schedule bytes flawed

-- a run that is drawn
abbrev pub IsDrawnFlaw : DrawRequest → DrawOutcome → List ℕ → Bool → Type 0
IsDrawnFlaw q drawn.Drawn bytes flawed = IsScheduleFlaw q.schedule bytes flawed
IsDrawnFlaw q (drawn.Refused r) bytes flawed = IsNoFlaw flawed

-- ---- of an answer, and of a script that was read

-- a fault is no flaw
abbrev pub IsAnswerFlaw : {O F : Type 0} → (O → List ℕ → Bool → Type 0) → Result O F → List ℕ → Bool → Type 0
IsAnswerFlaw flaw (Ok outcome) bytes flawed = flaw outcome bytes flawed
IsAnswerFlaw flaw (Err fault) bytes flawed = IsNoFlaw flawed

-- the same of the end of a job
abbrev pub IsEndFlaw : {O F : Type 0} → (O → List ℕ → Bool → Type 0) → JobEnd O F → List ℕ → Bool → Type 0
IsEndFlaw flaw end bytes flawed = IsAnswerFlaw flaw end.answer bytes flawed

-- the bytes that were read of a script
abbrev pub script_bytes : {S A : Type 0} → NamedScript S A → List ℕ
script_bytes script = tee_text (last_error_inner (watched_inner script.reader))

-- the bytes that a writer kept
abbrev pub output_bytes : {W A : Type 0} → Watched (LastError (Tee W A)) → List ℕ
output_bytes writer = tee_text (last_error_inner (watched_inner writer))
