-- What is promised of greedy runs (own).
-- Depends on greedy runs, and on runs that show a trace.
use Rattle.std.specs.Prelude.{◌≡◌, ℕ, Bool, true, List, Some}
use Rattle.def_term.specs.Names.{Name}
use Rattle.def_script.specs.Program.{Program}
use Rattle.def_run.specs.Run.{moves}
use Rattle.def_explore.specs.Rests.{RunQuestion, KeptMessages, all_messages, by_process, kept_in}
use Rattle.def_explore.specs.Answers.{RestEntry, IsJournalFrom}
use Rattle.def_explore.specs.RunsToEnd.{AreSoundWithin}
use Rattle.def_compare.specs.Traces.{TraceQuestion, begins_trace}
use Rattle.def_compare.specs.Entries.{Match, possible_by}
use Rattle.def_compare.specs.InOrder.{IsShownByRun}
use Rattle.def_greedy_run.specs.GreedyRuns.{greedy_run}

-- it goes on from the first picks, and each of its picks moves
abbrev pub GreedyRunMoves : Type 0
GreedyRunMoves =
    (admits : KeptMessages → Bool) (q : RunQuestion) (ss : List Name) (p : Program) (picks before : List ℕ) (n : ℕ) →
    IsJournalFrom p before (greedy_run admits q ss p picks n (moves p before))

-- where what is kept at first is admitted, so is what is kept of it
abbrev pub GreedyRunIsAdmitted : Type 0
GreedyRunIsAdmitted =
    (admits : KeptMessages → Bool) (q : RunQuestion) (ss : List Name) (p : Program) (picks before : List ℕ) (n : ℕ) →
    admits (kept_in q ss p (moves p before)) ≡ true → admits (kept_in q ss p (greedy_run admits q ss p picks n (moves p before))) ≡ true

-- where the second run goes on from it and shows the trace by process, that is a run from the first picks which does, at rest where it may not go on
abbrev pub GreedyRunShows : Type 0
GreedyRunShows =
    (a : TraceQuestion) (ss : List Name) (p : Program) (picks before : List ℕ) (n : ℕ) (es : List RestEntry) (m : Match) →
    AreSoundWithin (begins_trace a.messages) by_process ss p (greedy_run (begins_trace a.messages) all_messages ss p picks n (moves p before)) es → possible_by a es ≡ Some m →
    IsShownByRun a ss p before m.entry.journal m.pairs
