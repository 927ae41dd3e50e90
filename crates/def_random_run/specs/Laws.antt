-- What is promised of random runs (own).
-- Depends on random runs and their entries.
use Rattle.std.specs.Prelude.{◌≡◌, ◌<◌, ◌≤◌, ◌+◌, ℕ, true, List, length}
use Rattle.def_term.specs.Alive.{PROCESSES}
use Rattle.def_term.specs.Names.{Name}
use Rattle.def_script.specs.Program.{Program}
use Rattle.def_run.specs.Run.{moves}
use Rattle.def_run.specs.Round.{pass}
use Rattle.def_explore.specs.Rests.{IsRestAfter, RunQuestion}
use Rattle.def_explore.specs.Answers.{IsJournalFrom, AreDistinct}
use Rattle.def_explore.specs.RunsToEnd.{AreSoundWithin, all_runs}
use Rattle.def_random_run.specs.RandomRuns.{is_at_rest, random_run}
use Rattle.def_random_run.specs.RandomEntries.{random_entries, random_states}

-- ---- one run

-- it goes on from the first picks, and each of its picks moves
abbrev pub RandomRunMoves : Type 0
RandomRunMoves = (p : Program) (picks before : List ℕ) (n seed : ℕ) → IsJournalFrom p before (random_run p picks n seed (moves p before))

-- it has at most so many moves more
abbrev pub RandomRunIsBounded : Type 0
RandomRunIsBounded = (p : Program) (picks journal : List ℕ) (n seed : ℕ) → length (random_run p picks n seed journal) ≤ length journal + n

-- where it has fewer, none of the picks moves after it
abbrev pub RandomRunRests : Type 0
RandomRunRests =
    (p : Program) (picks journal : List ℕ) (n seed : ℕ) → length (random_run p picks n seed journal) < length journal + n →
    is_at_rest p picks (random_run p picks n seed journal) ≡ true

-- where at most 64 processes begin, and none of a pass moves, nothing does
abbrev pub PassIsAtRest : Type 0
PassIsAtRest = (p : Program) (journal : List ℕ) → length p.entries ≤ PROCESSES → is_at_rest p pass journal ≡ true → IsRestAfter p journal

-- ---- several runs

-- each entry is of a run to rest that goes on from the first picks
abbrev pub RandomEntriesAreSound : Type 0
RandomEntriesAreSound =
    (q : RunQuestion) (ss : List Name) (p : Program) (before : List ℕ) (runs seed max_states : ℕ) → length p.entries ≤ PROCESSES →
    AreSoundWithin all_runs q ss p before (random_entries q ss p pass (moves p before) runs seed max_states)

-- no two keep the same
abbrev pub RandomEntriesAreDistinct : Type 0
RandomEntriesAreDistinct =
    (q : RunQuestion) (ss : List Name) (p : Program) (picks first : List ℕ) (runs seed max_states : ℕ) →
    AreDistinct (random_entries q ss p picks first runs seed max_states)

-- the runs go through at most so many states
abbrev pub RandomStatesAreBounded : Type 0
RandomStatesAreBounded =
    (p : Program) (picks first : List ℕ) (runs seed max_states : ℕ) → random_states p picks first runs seed max_states ≤ max_states
