-- What a run gives (own).
-- Depends on what a run is asked for, and on what a job is.
use Rattle.std.specs.Prelude.{◌≡◌, ℕ, Bool, true, false, List, [], Option, Some, None}
use Rattle.def_script.specs.Program.{Program}
use Rattle.def_script.specs.Script.{Refusal}
use Rattle.def_run.specs.Listing.{program_output}
use Rattle.tn_refusal.specs.Refusals.{refusal_of}
use Rattle.tn_moves.specs.Schedules.{ScheduleView, by_workers, schedule_seen, ArePicks, AreBadMoves, HasPicks}
use Rattle.tn_moves.specs.declared.schedule.Schedule.{Schedule}
use Rattle.tn_run.specs.Jobs.{JobView, FailedEnd, failed_end, no_end_failed}
use Rattle.tn_run.specs.declared.refusal_form.RefusalForm.TheVariants.{Line}
use Rattle.tn_run.specs.declared.outcome.Outcome.{Outcome}
use Rattle.tn_run.specs.declared.outcome.Outcome.TheVariants.{Listed, Refused}
use Rattle.tn_run.specs.declared.outcome.RunRefusal.{RunRefusal}
use Rattle.tn_run.specs.declared.outcome.RunRefusal.TheVariants.{Text, Moves}
use Rattle.tn_run.specs.declared.fault.RunFault.{RunFault}
use Rattle.tn_run.specs.declared.fault.LiveFault.{LiveFault}
use Rattle.tn_run.specs.declared.fault.LiveFault.TheVariants.{Run, Pool}
use Rattle.tn_run.specs.declared.live.Ran.{Ran}

-- the refusal of a text that is reported
abbrev pub text_refusal : RunRefusal → Option Refusal
text_refusal (Text r) = Some (refusal_of r)
text_refusal (Moves r) = None

-- the text of moves is refused so for the program, and nothing is written
abbrev pub IsRefusedRun : ScheduleView → Program → RunRefusal → List ℕ → Type 0
IsRefusedRun a p (Text r) output = ⊥
IsRefusedRun a p (Moves r) output = AreBadMoves a p r × (output ≡ [])

-- the output of an accepted script, for the picks that are asked
pub record IsRunListing (a : ScheduleView) (p : Program) (output : List ℕ) : Type 0 where
  pub picks : List ℕ
  pub given : ArePicks a p picks
  pub listing : output ≡ program_output p picks

-- the output is that of the program, where the outcome is its listing; nothing where its moves are refused
abbrev pub IsListedOutput : ScheduleView → Program → Outcome → List ℕ → Type 0
IsListedOutput a p Listed output = IsRunListing a p output
IsListedOutput a p (Refused r) output = IsRefusedRun a p r output

-- the refusal of a text that an outcome is
abbrev pub outcome_refusal : Outcome → Option Refusal
outcome_refusal Listed = None
outcome_refusal (Refused r) = text_refusal r

-- the outcome is the listing of an accepted script
abbrev pub is_listed : Outcome → Bool
is_listed Listed = true
is_listed (Refused r) = false

-- the run by a schedule
abbrev pub run_for : ScheduleView → JobView Outcome RunFault
run_for a = record { of_program = IsListedOutput a; refusal_in = outcome_refusal; refusal_form = Line; succeeds = is_listed; has = λ outcome. Unit {0}; reads = HasPicks a; end_of = failed_end }

abbrev pub run_by : Schedule → JobView Outcome RunFault
run_by schedule = run_for (schedule_seen schedule)

-- a refused script has no picks
abbrev pub HasPicksWhereListed : Outcome → List ℕ → Type 0
HasPicksWhereListed Listed picks = Unit {0}
HasPicksWhereListed (Refused r) picks = picks ≡ []

-- which end a fault of a run by workers is of
abbrev pub live_end_of : LiveFault → FailedEnd
live_end_of (Run fault) = failed_end fault
live_end_of (Pool fault) = no_end_failed

-- the run by workers, for the picks that they made
abbrev pub live_run : JobView Ran LiveFault
live_run = record {
  of_program = λ p ran output. IsListedOutput (by_workers ran.picks.items) p ran.outcome output;
  refusal_in = λ ran. outcome_refusal ran.outcome;
  refusal_form = Line;
  succeeds = λ ran. is_listed ran.outcome;
  has = λ ran. HasPicksWhereListed ran.outcome ran.picks.items;
  reads = Unit {0};
  end_of = live_end_of;
}
