-- What is promised of a state of the search: a node with its sessions and what is kept of their messages, after a journal.
-- Depends on what is asked.
use Rattle.std.specs.Prelude.{◌≡◌, ◌⊎◌, ℕ, Bool, true, false, List, [], ◌∷◌, ◌++◌, IsTrue}
use Rattle.std.specs.List.{Contains}
use Rattle.def_run.specs.Laws.{IsIdleAfter}
use Rattle.def_explore.specs.Rests.{IsMovingAfter, KeptMessages}
use Rattle.tn_explore.specs.Query.{Query, AlikeFor, AreFirstFor, kept_for}

-- the copy is the same state
abbrev pub IsCopy : {S : Type 0} → (S → List ℕ) → (S → Query → Type 0) → S → S → Type 0
IsCopy Journal IsOf s t = (a : Query) → IsOf s a → (Journal t ≡ Journal s) × IsOf t a

-- the state is that of one more pick after this journal, or the pick is idle
abbrev pub StepGives : {S : Type 0} → (S → List ℕ) → (S → Query → Type 0) → Query → List ℕ → ℕ → S → Bool → Type 0
StepGives Journal IsOf a journal pick t false = IsIdleAfter a.program journal pick
StepGives Journal IsOf a journal pick t true = IsMovingAfter a.program journal pick × (Journal t ≡ journal ++ pick ∷ []) × IsOf t a

abbrev pub AdvancesState : {S : Type 0} → (S → List ℕ) → (S → Query → Type 0) → ℕ → S → S → Bool → Type 0
AdvancesState Journal IsOf pick old new moved = (a : Query) → IsOf old a → StepGives Journal IsOf a (Journal old) pick new moved

-- every other pick is idle
abbrev pub HaveAllMoves : Query → (journal picks : List ℕ) → Type 0
HaveAllMoves a journal picks = (pick : ℕ) → IsMovingAfter a.program journal pick → Contains picks pick

-- of the state
abbrev pub HasAllMoves : {S : Type 0} → (S → List ℕ) → (S → Query → Type 0) → S → List ℕ → Type 0
HasAllMoves Journal IsOf s picks = (a : Query) → IsOf s a → HaveAllMoves a (Journal s) picks

-- every other pick is idle; or, where some are left out, perhaps the picks are independent of all others
abbrev pub AreEnough : Bool → Query → (journal picks : List ℕ) → Type 0
AreEnough false a journal picks = HaveAllMoves a journal picks
AreEnough true a journal picks = HaveAllMoves a journal picks ⊎ AreFirstFor a journal picks

-- where picks are left out every run is followed
abbrev pub FollowsAllBy : Bool → Query → Type 0
FollowsAllBy leaves_out a = leaves_out ≡ true → (kept : KeptMessages) → a.admits kept ≡ true

-- the picks that are tried after the state
abbrev pub HasEnoughPicks : {S : Type 0} → (S → List ℕ) → (S → Query → Type 0) → Bool → S → List ℕ → Type 0
HasEnoughPicks Journal IsOf leaves_out s picks = (a : Query) → IsOf s a → FollowsAllBy leaves_out a → AreEnough leaves_out a (Journal s) picks

-- both are the same state
abbrev pub AreSame : {S : Type 0} → (S → List ℕ) → (S → Query → Type 0) → S → S → Bool → Type 0
AreSame Journal IsOf s t result = IsTrue result → (a : Query) → IsOf s a → IsOf t a → AlikeFor a (Journal s) (Journal t)

-- it is what is kept of the state
abbrev pub KeepsFor : {S M : Type 0} → (S → List ℕ) → (S → Query → Type 0) → (M → KeptMessages) → S → M → Type 0
KeepsFor Journal IsOf Seen s m = (a : Query) → IsOf s a → Seen m ≡ kept_for a (Journal s)

-- what is kept of the state is admitted by the filter, or is not
abbrev pub IsAdmitted : {S F : Type 0} → (S → List ℕ) → (S → Query → Type 0) → (F → Query → Type 0) → F → S → Bool → Type 0
IsAdmitted Journal IsOf Filters f s result = (a : Query) → IsOf s a → Filters f a → a.admits (kept_for a (Journal s)) ≡ result

-- two of them are equal where the same is kept, and nowhere else
abbrev pub EqualsByKept : {M : Type 0} → (M → M → Bool) → (M → KeptMessages) → Type 0
EqualsByKept {M} eq Seen = (m n : M) → (eq m n ≡ true → Seen m ≡ Seen n) × (Seen m ≡ Seen n → eq m n ≡ true)
