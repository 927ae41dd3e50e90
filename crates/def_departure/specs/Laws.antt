-- What is promised of the run that is explained where no run shows a trace (own).
-- Depends on entries, and on runs that are followed as long as they begin the trace.
use Rattle.std.specs.Prelude.{◌≡◌, ℕ, List, Some, None, false}
use Rattle.def_term.specs.Names.{Name}
use Rattle.def_script.specs.Program.{Program}
use Rattle.def_explore.specs.Rests.{RunQuestion, kept_in}
use Rattle.def_explore.specs.Answers.{RestEntry, IsJournalFrom}
use Rattle.def_explore.specs.RunsToEnd.{AreSoundWithin, IsRunToEnd}
use Rattle.def_run.specs.Run.{moves}
use Rattle.def_compare.specs.Traces.{TraceQuestion, begins_trace}
use Rattle.def_compare.specs.Entries.{Match, possible_by}
use Rattle.def_compare.specs.Answers.{about_trace}
use Rattle.def_departure.specs.Departures.{departure_of}

-- nothing is explained of a trace that is possible
abbrev pub PossibleHasNoDeparture : Type 0
PossibleHasNoDeparture = (a : TraceQuestion) (es : List RestEntry) (m : Match) → possible_by a es ≡ Some m → departure_of (about_trace a) es ≡ None

-- a run that goes on from these picks, and is followed up to the move after which it doesn't begin the trace any more
pub record IsDeparture (a : TraceQuestion) (q : RunQuestion) (ss : List Name) (p : Program) (before journal : List ℕ) : Type 0 where
  pub from : IsJournalFrom p before journal
  pub ends : IsRunToEnd (begins_trace a.messages) q ss p (moves p before) from.more
  pub departs : begins_trace a.messages (kept_in q ss p journal) ≡ false

-- what is explained is the last move of such a run, where the entries are sound
abbrev pub DepartureEndsARun : Type 0
DepartureEndsARun =
    (a : TraceQuestion) (q : RunQuestion) (ss : List Name) (p : Program) (before : List ℕ) (es : List RestEntry) (journal : List ℕ) →
    AreSoundWithin (begins_trace a.messages) q ss p before es → departure_of (about_trace a) es ≡ Some journal → IsDeparture a q ss p before journal
