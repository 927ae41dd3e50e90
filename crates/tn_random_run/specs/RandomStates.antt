-- States of a search that a random run goes through, and what several random runs answer.
-- Depends on random runs, and on what is asked of a search.
use Rattle.std.specs.Prelude.{◌≡◌, ℕ, Bool, true, false, List, [], ◌∷◌, ◌++◌, Some, None}
use Rattle.def_run.specs.Run.{pick_step_after}
use Rattle.def_explore.specs.Answers.{RestEntry}
use Rattle.def_random_run.specs.RandomRuns.{moving_picks, random_pick, random_run}
use Rattle.def_random_run.specs.RandomEntries.{with_journal, random_entries, random_states}
use Rattle.tn_explore.specs.Query.{Query}
use Rattle.tn_random_run.specs.declared.search.RandomPlan.{RandomPlan}

-- ---- a move

-- after the journal the pick moves, or not
abbrev pub MovesBy : Query → List ℕ → ℕ → Bool → Type 0
MovesBy a journal pick moved = (pick_step_after a.program journal pick).moved ≡ moved

-- these are those of some picks that move after the journal
abbrev pub AreMovingFor : Query → (picks journal moving : List ℕ) → Type 0
AreMovingFor a picks journal moving = moving ≡ moving_picks a.program picks journal

-- the state is that of one more pick
pub record IsAfterMove {S : Type 0} (Journal : S → List ℕ) (IsOf : S → Query → Type 0) (a : Query) (pick : ℕ) (s t : S) : Type 0 where
  pub is_of : IsOf t a
  pub longer : Journal t ≡ Journal s ++ pick ∷ []

-- the state after the one of these picks that the number draws, where one moves; else it is as it was
abbrev pub IsMoveOf : {S : Type 0} → (S → List ℕ) → (S → Query → Type 0) → Query → (picks : List ℕ) → (number : ℕ) → (s t : S) → Bool → Type 0
IsMoveOf Journal IsOf a picks number s t false = (random_pick a.program picks (Journal s) number ≡ None) × (t ≡ s)
IsMoveOf Journal IsOf a picks number s t true = (pick : ℕ) × (random_pick a.program picks (Journal s) number ≡ Some pick) × IsAfterMove Journal IsOf a pick s t

-- ---- runs

-- the state after the random run
pub record IsRandomState {S : Type 0} (Journal : S → List ℕ) (IsOf : S → Query → Type 0) (a : Query) (picks : List ℕ) (moves seed : ℕ) (first s : S) : Type 0 where
  pub is_of : IsOf s a
  pub journal : Journal s ≡ random_run a.program picks moves seed (Journal first)

-- the entries with that of a journal, where the run is at rest
abbrev pub with_journal_for : Query → List ℕ → List RestEntry → List ℕ → List RestEntry
with_journal_for a = with_journal a.question a.sessions a.program

-- the random runs of the plan have these entries and go through so many states; they are not all runs
pub record IsRandomSearch (a : Query) (first picks : List ℕ) (plan : RandomPlan) (es : List RestEntry) (count : ℕ) (whole : Bool) : Type 0 where
  pub entries : es ≡ random_entries a.question a.sessions a.program picks first plan.runs plan.seed plan.max_states
  pub states : count ≡ random_states a.program picks first plan.runs plan.seed plan.max_states
  pub part : whole ≡ false
