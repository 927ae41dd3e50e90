-- The entries of several random runs, one for each listing (own).
-- Depends on random runs, and on what an exploration keeps of them.
use Rattle.std.specs.Prelude.{ℕ, zero, suc, ◌+◌, ◌-◌, Bool, false, if◌then◌else◌, List, [], ◌∷◌, ◌++◌, length}
use Rattle.std.specs.List.{list_any}
use Rattle.std.specs.Cmp.Lexicographic.{pointwise}
use Rattle.def_term.specs.Names.{Name}
use Rattle.def_term.specs.Order.{same}
use Rattle.def_script.specs.Program.{Program}
use Rattle.def_explore.specs.Rests.{RunQuestion, KeptMessages, kept_messages, kept_by_process, kept_in}
use Rattle.def_explore.specs.Answers.{RestEntry}
use Rattle.def_random_run.specs.Numbers.{next_seed, seed_mixture}
use Rattle.def_random_run.specs.RandomRuns.{is_at_rest, random_run}

-- ---- runs

-- how many states a run goes through that begins with the first journal
abbrev pub states_through : (first journal : List ℕ) → ℕ
states_through first journal = length journal - length first + 1

-- the journals of so many runs from the first journal on, which go through at most so many states together; the numbers of each begin with the mixture of its seed, and the next run has the next seed
abbrev pub random_runs : Program → (picks first : List ℕ) → (runs seed max_states : ℕ) → List (List ℕ)
random_runs p picks first zero seed max_states = []
random_runs p picks first (suc runs) seed zero = []
random_runs p picks first (suc runs) seed (suc moves) =
    let journal : List ℕ = random_run p picks moves (seed_mixture seed) first in
    journal ∷ random_runs p picks first runs (next_seed seed) (suc moves - states_through first journal)

-- how many states runs go through, and those that several go through each time
abbrev pub states_of : (first : List ℕ) → List (List ℕ) → ℕ
states_of first [] = 0
states_of first (journal ∷ js) = states_through first journal + states_of first js

abbrev pub random_states : Program → (picks first : List ℕ) → (runs seed max_states : ℕ) → ℕ
random_states p picks first runs seed max_states = states_of first (random_runs p picks first runs seed max_states)

-- ---- entries

-- the same is kept
abbrev pub keep_same : KeptMessages → KeptMessages → Bool
keep_same (kept_messages mss) (kept_messages nss) = pointwise (pointwise same) mss nss
keep_same (kept_by_process msss) (kept_by_process nsss) = pointwise (pointwise (pointwise same)) msss nsss
keep_same _ _ = false

-- the entries with another one, where none of them keeps the same
abbrev pub with_entry : List RestEntry → RestEntry → List RestEntry
with_entry es e = if list_any (λ f. keep_same e.kept f.kept) es then es else es ++ e ∷ []

-- with that of a journal, where the run is at rest
abbrev pub with_journal : RunQuestion → List Name → Program → List ℕ → List RestEntry → List ℕ → List RestEntry
with_journal q ss p picks es journal =
    if is_at_rest p picks journal then with_entry es (record { kept = kept_in q ss p journal; journal = journal }) else es

-- with those of several journals
abbrev pub with_journals : RunQuestion → List Name → Program → List ℕ → List RestEntry → List (List ℕ) → List RestEntry
with_journals q ss p picks es [] = es
with_journals q ss p picks es (journal ∷ js) = with_journals q ss p picks (with_journal q ss p picks es journal) js

-- those of so many runs
abbrev pub random_entries : RunQuestion → List Name → Program → (picks first : List ℕ) → (runs seed max_states : ℕ) → List RestEntry
random_entries q ss p picks first runs seed max_states = with_journals q ss p picks [] (random_runs p picks first runs seed max_states)
