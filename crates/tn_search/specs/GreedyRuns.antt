-- The greedy run of a program, as the only entry of a search.
-- Depends on greedy runs, and on what a search answers.
use Rattle.std.specs.Prelude.{◌≡◌, ℕ, ◌+◌, ◌-◌, Bool, List, [], ◌∷◌, length}
use Rattle.def_script.specs.Program.{Program}
use Rattle.def_run.specs.Run.{moves}
use Rattle.def_run.specs.Round.{pass}
use Rattle.def_explore.specs.Rests.{KeptMessages, kept_in}
use Rattle.def_explore.specs.Answers.{RestEntry}
use Rattle.def_greedy_run.specs.GreedyRuns.{greedy_run}
use Rattle.tn_explore.specs.Query.{Query, entry_for}
use Rattle.tn_explore.specs.Searches.{answer_entries}
use Rattle.tn_explore.specs.declared.search.Exploration.{Exploration}
use Rattle.tn_messages.specs.MessageViews.{kept_seen, question_of}
use Rattle.tn_messages.specs.declared.kept_listings.KeptListings.{KeptListings}
use Rattle.tn_search.specs.Sessions.{names_at}
use Rattle.tn_search.specs.States.{is_by_process}
use Rattle.tn_search.specs.declared.exploration.SearchPlan.{SearchPlan}

-- its journal: the moves of the first picks, with at most so many after them
abbrev pub greedy_journal : (KeptMessages → Bool) → Bool → Program → (before places : List ℕ) → ℕ → List ℕ
greedy_journal admits b p before places n = greedy_run admits (question_of b) (names_at p places) p pass n (moves p before)

-- its entry
abbrev pub greedy_entry : (KeptMessages → Bool) → Bool → Program → (before places : List ℕ) → ℕ → RestEntry
greedy_entry admits b p before places n =
    let journal = greedy_journal admits b p before places n in
    record { kept = kept_in (question_of b) (names_at p places) p journal; journal = journal }

-- the journal has the only entry, and it goes through so many states after as many moves
pub record IsOnlyEntry {A : Type 0} (a : Query) (journal : List ℕ) (before : ℕ) (e : Exploration A (KeptListings A)) : Type 0 where
  pub entry : answer_entries kept_seen e.answers.entries ≡ entry_for a journal ∷ []
  pub states : e.states ≡ length journal - before + 1

-- the greedy run has it, of at most so many states
pub record IsGreedyExploration {A : Type 0} (admits : KeptMessages → Bool) (b : Bool) (p : Program) (before places : List ℕ) (max_states : ℕ) (e : Exploration A (KeptListings A)) : Type 0 where
  pub entry : answer_entries kept_seen e.answers.entries ≡ greedy_entry admits b p before places (max_states - 1) ∷ []
  pub states : e.states ≡ length (greedy_journal admits b p before places (max_states - 1)) - length (moves p before) + 1

-- that of the plan
abbrev pub IsGreedyPlan : {A : Type 0} → (KeptMessages → Bool) → Program → SearchPlan → Exploration A (KeptListings A) → Type 0
IsGreedyPlan admits p plan = IsGreedyExploration admits (is_by_process plan.order) p plan.before.now plan.places.now plan.max_states
