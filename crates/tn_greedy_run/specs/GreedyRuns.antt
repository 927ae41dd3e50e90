-- States of a search that a greedy run goes through.
-- Depends on greedy runs, and on what is asked of a search.
use Rattle.std.specs.Prelude.{◌≡◌, ℕ, Bool, true, false, List, [], ◌∷◌, ◌++◌, Option, Some, None}
use Rattle.def_greedy_run.specs.GreedyRuns.{is_next, next_pick, greedy_run}
use Rattle.tn_explore.specs.Query.{Query}

-- what is asked says which pick is the next one
abbrev pub is_next_for : Query → List ℕ → ℕ → Bool
is_next_for a = is_next a.admits a.question a.sessions a.program

abbrev pub next_pick_for : Query → List ℕ → List ℕ → Option ℕ
next_pick_for a = next_pick a.admits a.question a.sessions a.program

abbrev pub greedy_run_for : Query → List ℕ → ℕ → List ℕ → List ℕ
greedy_run_for a = greedy_run a.admits a.question a.sessions a.program

-- the state is that of one more pick
pub record HasOnePickMore {S : Type 0} (Journal : S → List ℕ) (IsOf : S → Query → Type 0) (a : Query) (pick : ℕ) (s t : S) : Type 0 where
  pub is_of : IsOf t a
  pub longer : Journal t ≡ Journal s ++ pick ∷ []

-- the state after the pick, where it may be the next one
abbrev pub IsAfterPick : {S : Type 0} → (S → List ℕ) → (S → Query → Type 0) → Query → ℕ → S → Option S → Type 0
IsAfterPick Journal IsOf a pick s None = is_next_for a (Journal s) pick ≡ false
IsAfterPick Journal IsOf a pick s (Some t) = (is_next_for a (Journal s) pick ≡ true) × HasOnePickMore Journal IsOf a pick s t

-- the state after the next one of these picks
abbrev pub IsNextState : {S : Type 0} → (S → List ℕ) → (S → Query → Type 0) → Query → List ℕ → S → Option S → Type 0
IsNextState Journal IsOf a picks s None = next_pick_for a picks (Journal s) ≡ None
IsNextState Journal IsOf a picks s (Some t) = (pick : ℕ) × (next_pick_for a picks (Journal s) ≡ Some pick) × HasOnePickMore Journal IsOf a pick s t

-- the state after the greedy run
pub record IsGreedyState {S : Type 0} (Journal : S → List ℕ) (IsOf : S → Query → Type 0) (a : Query) (picks : List ℕ) (n : ℕ) (first s : S) : Type 0 where
  pub is_of : IsOf s a
  pub journal : Journal s ≡ greedy_run_for a picks n (Journal first)
