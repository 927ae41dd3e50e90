-- Runs that are followed as long as what is kept of them is admitted (own).
-- Depends on what an exploration answers, and on picks that lead to the same state.
use Rattle.std.specs.Prelude.{◌≡◌, ◌<◌, ◌⊎◌, ℕ, Bool, true, false, List, [], ◌∷◌, ◌++◌, length}
use Rattle.def_term.specs.Names.{Name}
use Rattle.def_script.specs.Program.{Program}
use Rattle.def_run.specs.Run.{JOURNAL, moves}
use Rattle.def_explore.specs.Lists.{OneOf, EachOf}
use Rattle.def_explore.specs.Rests.{IsRestAfter, RunQuestion, KeptMessages, kept_in}
use Rattle.def_explore.specs.Alike.{HasStateOf, HasNext, HasFirstPicks}
use Rattle.def_explore.specs.Answers.{RestEntry, IsJournalFrom, IsEntryFor, IsNoLonger}

-- what is kept is admitted before each of the second picks, which come after the first
abbrev pub IsFollowed : (KeptMessages → Bool) → RunQuestion → List Name → Program → (picks more : List ℕ) → Type 0
IsFollowed admits q ss p picks [] = Unit {0}
IsFollowed admits q ss p picks (pick ∷ more) = (admits (kept_in q ss p picks) ≡ true) × IsFollowed admits q ss p (picks ++ pick ∷ []) more

-- nothing moves after these picks, or what is kept is not admitted
abbrev pub IsEndAfter : (KeptMessages → Bool) → RunQuestion → List Name → Program → List ℕ → Type 0
IsEndAfter admits q ss p picks = IsRestAfter p picks ⊎ (admits (kept_in q ss p picks) ≡ false)

-- the run that goes on from the first picks by the second is followed to its end
pub record IsRunToEnd (admits : KeptMessages → Bool) (q : RunQuestion) (ss : List Name) (p : Program) (picks more : List ℕ) : Type 0 where
  pub followed : IsFollowed admits q ss p picks more
  pub ends : IsEndAfter admits q ss p (picks ++ more)

-- ---- entries

-- the entry's journal goes on from the first picks, is followed to its end, and that is kept of it
pub record IsEndEntry (admits : KeptMessages → Bool) (q : RunQuestion) (ss : List Name) (p : Program) (before : List ℕ) (e : RestEntry) : Type 0 where
  pub from : IsJournalFrom p before e.journal
  pub ends : IsRunToEnd admits q ss p (moves p before) from.more
  pub keeps : kept_in q ss p e.journal ≡ e.kept

-- each entry is of a run that is followed to its end
abbrev pub AreSoundWithin : (KeptMessages → Bool) → RunQuestion → List Name → Program → List ℕ → List RestEntry → Type 0
AreSoundWithin admits q ss p before es = EachOf (IsEndEntry admits q ss p before) es

-- and each such run has its entry
abbrev pub AreCompleteWithin : (KeptMessages → Bool) → RunQuestion → List Name → Program → List ℕ → List RestEntry → Type 0
AreCompleteWithin admits q ss p before es = (more : List ℕ) → IsRunToEnd admits q ss p before more → OneOf (IsEntryFor q ss p (before ++ more)) es

-- which is no longer
abbrev pub AreShortestWithin : (KeptMessages → Bool) → RunQuestion → List Name → Program → List ℕ → List RestEntry → Type 0
AreShortestWithin admits q ss p before es = (more : List ℕ) → IsRunToEnd admits q ss p before more → EachOf (IsNoLonger q ss p (before ++ more)) es

-- ---- states

-- where what is kept after the journal is admitted, one of these journals leads to the state that a pick gives
abbrev pub HasNextWithin : (KeptMessages → Bool) → RunQuestion → List Name → Program → List (List ℕ) → List ℕ → Type 0
HasNextWithin admits q ss p js j = admits (kept_in q ss p j) ≡ true → HasNext q ss p js j

-- that is so after each of them
abbrev pub IsClosed : (KeptMessages → Bool) → RunQuestion → List Name → Program → List (List ℕ) → Type 0
IsClosed admits q ss p js = EachOf (HasNextWithin admits q ss p js) js

-- whatever picks come after the first ones, as long as the run is followed, one of these journals leads to the state that they lead to
abbrev pub HaveAllStates : (KeptMessages → Bool) → RunQuestion → List Name → Program → List ℕ → List (List ℕ) → Type 0
HaveAllStates admits q ss p before js = (more : List ℕ) → IsFollowed admits q ss p before more → HasStateOf q ss p js (before ++ more)

-- ---- states after which some picks alone are tried

-- each run is followed, and picks are tried that are independent of all others
pub record HasFirstPicksWithin (admits : KeptMessages → Bool) (q : RunQuestion) (ss : List Name) (p : Program) (js : List (List ℕ)) (j : List ℕ) : Type 0 where
  pub all : (kept : KeptMessages) → admits kept ≡ true
  pub first : HasFirstPicks q ss p js j

-- after the journal all picks are tried, or such picks alone
abbrev pub IsTriedWithin : (KeptMessages → Bool) → RunQuestion → List Name → Program → List (List ℕ) → List ℕ → Type 0
IsTriedWithin admits q ss p js j = HasNextWithin admits q ss p js j ⊎ HasFirstPicksWithin admits q ss p js j

-- that is so after each of them
abbrev pub IsReducedWithin : (KeptMessages → Bool) → RunQuestion → List Name → Program → List (List ℕ) → Type 0
IsReducedWithin admits q ss p js = EachOf (IsTriedWithin admits q ss p js) js

-- none of these journals is full
abbrev pub AreBelowLimit : Program → List (List ℕ) → Type 0
AreBelowLimit p js = EachOf (λ j. length (moves p j) < JOURNAL) js

-- ---- all runs

-- each run is followed
abbrev pub all_runs : KeptMessages → Bool
all_runs kept = true
