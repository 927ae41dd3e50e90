-- The entries of random runs of a program, as those of a search.
-- Depends on random runs, and on what a search answers.
use Rattle.std.specs.Prelude.{◌≡◌, ℕ, Bool, false, List}
use Rattle.def_script.specs.Program.{Program}
use Rattle.def_run.specs.Run.{moves}
use Rattle.def_run.specs.Round.{pass}
use Rattle.def_explore.specs.Answers.{RestEntry}
use Rattle.def_explore.specs.RunsToEnd.{AreSoundWithin, all_runs}
use Rattle.def_random_run.specs.RandomEntries.{random_entries, random_states}
use Rattle.tn_explore.specs.Searches.{answer_entries}
use Rattle.tn_explore.specs.declared.search.Exploration.{Exploration}
use Rattle.tn_messages.specs.MessageViews.{kept_seen, question_of}
use Rattle.tn_messages.specs.declared.kept_listings.KeptListings.{KeptListings}
use Rattle.tn_search.specs.Sessions.{names_at}
use Rattle.tn_search.specs.States.{is_by_process}
use Rattle.tn_search.specs.declared.exploration.SearchPlan.{SearchPlan}

-- the entries of so many random runs that begin with the moves of the first picks
abbrev pub random_entries_after : Bool → Program → (before places : List ℕ) → (runs seed max_states : ℕ) → List RestEntry
random_entries_after b p before places = random_entries (question_of b) (names_at p places) p pass (moves p before)

-- how many states these go through
abbrev pub random_states_after : Program → (before : List ℕ) → (runs seed max_states : ℕ) → ℕ
random_states_after p before = random_states p pass (moves p before)

-- these are the entries, each of a run to rest; so many states were met, and not all
pub record IsRandomExploration {A : Type 0} (b : Bool) (p : Program) (before places : List ℕ) (runs seed max_states : ℕ) (e : Exploration A (KeptListings A)) : Type 0 where
  pub entries : answer_entries kept_seen e.answers.entries ≡ random_entries_after b p before places runs seed max_states
  pub sound : AreSoundWithin all_runs (question_of b) (names_at p places) p before (answer_entries kept_seen e.answers.entries)
  pub states : e.states ≡ random_states_after p before runs seed max_states
  pub part : e.is_complete ≡ false

-- those of the plan
abbrev pub IsRandomPlan : {A : Type 0} → Program → SearchPlan → (runs seed : ℕ) → Exploration A (KeptListings A) → Type 0
IsRandomPlan p plan runs seed = IsRandomExploration (is_by_process plan.order) p plan.before.now plan.places.now runs seed plan.max_states
