-- A run that shows a trace by process, found by its messages in the trace's own order (own). A tracer gets trace messages in some order of all processes, which mostly is that of a run.
-- Depends on runs that show a trace.
use Rattle.std.specs.Prelude.{◌≡◌, ℕ, false, List, Some}
use Rattle.def_term.specs.Names.{Name}
use Rattle.def_script.specs.Program.{Program}
use Rattle.def_explore.specs.Rests.{IsRestAfter, all_messages, by_process, kept_in}
use Rattle.def_explore.specs.Answers.{RestEntry, IsJournalFrom}
use Rattle.def_explore.specs.RunsToEnd.{AreSoundWithin}
use Rattle.def_compare.specs.Traces.{TraceQuestion, IsShownBy, begins_trace}
use Rattle.def_compare.specs.Entries.{Match, possible_by}

-- a run that goes on from these picks and shows the trace by process, at rest where it may not go on
pub record IsShownByRun (a : TraceQuestion) (ss : List Name) (p : Program) (before journal : List ℕ) (ps : List (ℕ × ℕ)) : Type 0 where
  pub from : IsJournalFrom p before journal
  pub shows : IsShownBy ps a (kept_in by_process ss p journal)
  pub rests : a.goes_on ≡ false → IsRestAfter p journal

-- the first of these entries shows the trace in its own order; the second, which go on from the journal of that one, show it by process
abbrev pub RunInOrderShows : Type 0
RunInOrderShows =
    (a : TraceQuestion) (ss : List Name) (p : Program) (before : List ℕ) (es fs : List RestEntry) (m n : Match) →
    AreSoundWithin (begins_trace a.messages) all_messages ss p before es → possible_by a es ≡ Some m →
    AreSoundWithin (begins_trace a.messages) by_process ss p m.entry.journal fs → possible_by a fs ≡ Some n →
    IsShownByRun a ss p before n.entry.journal n.pairs
