-- Picks that lead to the same state, and journals that are closed under picks (own).
-- Depends on runs, on sessions, and on what is kept of their messages.
use Rattle.std.specs.Prelude.{◌≡◌, ◌<◌, ◌==◌, ◌⊎◌, ℕ, Bool, true, false, List, [], ◌∷◌, ◌++◌, length, All}
use Rattle.std.specs.List.{list_any}
use Rattle.def_term.specs.Names.{Name}
use Rattle.def_script.specs.Program.{Program}
use Rattle.def_run.specs.Run.{JOURNAL, moves, run_state_of}
use Rattle.def_run.specs.View.{view}
use Rattle.def_run.specs.Listing.{state_of}
use Rattle.def_explore.specs.Lists.{OneOf, EachOf}
use Rattle.def_explore.specs.Rests.{IsMovingAfter, RunQuestion, kept_in}

-- each of these sessions is in the same state after both
abbrev pub SessionsAlike : List Name → Program → List ℕ → List ℕ → Type 0
SessionsAlike [] p a b = Unit {0}
SessionsAlike (s ∷ ss) p a b = (state_of (view s p a) ≡ state_of (view s p b)) × SessionsAlike ss p a b

-- both lead to the same state: the processes, the commands that are left and the room in the journal, the state of each session that is asked, and what is kept of the messages
pub record IsStateAlike (q : RunQuestion) (ss : List Name) (p : Program) (a b : List ℕ) : Type 0 where
  pub place : run_state_of p a ≡ run_state_of p b
  pub sessions : SessionsAlike ss p a b
  pub kept : kept_in q ss p a ≡ kept_in q ss p b

-- one of these journals leads to the same state as the picks
abbrev pub HasStateOf : RunQuestion → List Name → Program → List (List ℕ) → List ℕ → Type 0
HasStateOf q ss p js picks = OneOf (IsStateAlike q ss p picks) js

-- whichever pick moves after the journal, one of these journals leads to the state that it gives
abbrev pub HasNext : RunQuestion → List Name → Program → List (List ℕ) → List ℕ → Type 0
HasNext q ss p js j = (pick : ℕ) → IsMovingAfter p j pick → HasStateOf q ss p js (j ++ pick ∷ [])

-- ---- picks that can go first

-- the pick is one of these
abbrev pub is_pick_among : ℕ → List ℕ → Bool
is_pick_among pick ts = list_any (λ t. t == pick) ts

-- whatever picks come that are none of these, while the journal has room, each of these moves after them, and leads to the same state as if it came first
abbrev pub AreIndependent : RunQuestion → List Name → Program → List ℕ → List ℕ → Type 0
AreIndependent q ss p j ts =
    (others : List ℕ) → All (λ other. is_pick_among other ts ≡ false) others → length (moves p (j ++ others)) < JOURNAL → (t : ℕ) → is_pick_among t ts ≡ true →
    IsMovingAfter p (j ++ others) t × IsStateAlike q ss p (j ++ others ++ t ∷ []) (j ++ t ∷ others)

-- some picks, at least one, after which one of the journals leads to the same state, and which are independent of all others
pub record HasFirstPicks (q : RunQuestion) (ss : List Name) (p : Program) (js : List (List ℕ)) (j : List ℕ) : Type 0 where
  pub picks : List ℕ
  pub one : ℕ
  pub there : is_pick_among one picks ≡ true
  pub independent : AreIndependent q ss p j picks
  pub next : (t : ℕ) → is_pick_among t picks ≡ true → HasStateOf q ss p js (j ++ t ∷ [])

-- after each of the journals either all picks that move are tried, or such picks alone
abbrev pub IsReduced : RunQuestion → List Name → Program → List (List ℕ) → Type 0
IsReduced q ss p js = EachOf (λ j. HasNext q ss p js j ⊎ HasFirstPicks q ss p js j) js
