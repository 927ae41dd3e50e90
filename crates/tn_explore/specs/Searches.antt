-- What a search has answered, and what it has tried.
-- Depends on the states of a search.
use Rattle.std.specs.Prelude.{◌≡◌, ◌↔◌, ◌<◌, ◌≤◌, ◌+◌, ◌⊎◌, ℕ, Bool, true, false, not, List, [], ◌∷◌, ◌++◌, length, min, IsTrue, map, All}
use Rattle.std.specs.declared.vec.Vec.{Vec}
use Rattle.std.below.core.specs.declared.int.usize.TheConstants.{MAX}
use Rattle.def_run.specs.Run.{JOURNAL}
use Rattle.def_run.specs.Laws.{IsIdleAfter}
use Rattle.def_explore.specs.Rests.{IsMovingAfter, KeptMessages}
use Rattle.def_explore.specs.Lists.{OneOf, EachOf}
use Rattle.def_explore.specs.Answers.{RestEntry, AreDistinct}
use Rattle.def_explore.specs.RunsToEnd.{AreSoundWithin, AreCompleteWithin, AreShortestWithin}
use Rattle.tn_explore.specs.Query.{Query, JournalFor, HasStateFor, HasNextBy, HaveAllFor, EndFor, EntryFor, NoLongerFor, kept_for, entry_for}

-- the entry of a pair: what is kept, and the journal
abbrev pub answer_entry : {A M : Type 0} → (M → KeptMessages) → M × Vec ℕ A → RestEntry
answer_entry Seen pair = record { kept = Seen pair.0; journal = pair.1.items }

abbrev pub answer_entries : {A M : Type 0} → (M → KeptMessages) → List (M × Vec ℕ A) → List RestEntry
answer_entries Seen pairs = map (answer_entry Seen) pairs

-- the state is where its journal leads, whose picks each moved, which goes on from the first picks and is followed, and which is so long
pub record IsAt {S : Type 0} (Journal : S → List ℕ) (IsOf : S → Query → Type 0) (a : Query) (depth : ℕ) (s : S) : Type 0 where
  pub is_of : IsOf s a
  pub from : JournalFor a (Journal s)
  pub long : length (Journal s) ≡ depth

-- each of them is
abbrev pub AreAt : {S : Type 0} → (S → List ℕ) → (S → Query → Type 0) → Query → ℕ → List S → Type 0
AreAt Journal IsOf a depth ss = EachOf (IsAt Journal IsOf a depth) ss

-- where it is true, one of the states is the same
abbrev pub HasSame : {S : Type 0} → (S → List ℕ) → (S → Query → Type 0) → List S → S → Bool → Type 0
HasSame Journal IsOf ss s result = IsTrue result → (a : Query) (depth : ℕ) → AreAt Journal IsOf a depth ss → IsOf s a → HasStateFor a (map Journal ss) (Journal s)

-- more states, at the end, so that one is the same as this one
pub record AddsState {S : Type 0} (Journal : S → List ℕ) (IsOf : S → Query → Type 0) (a : Query) (depth : ℕ) (s : S) (old new : List S) : Type 0 where
  pub more : List S
  pub longer : new ≡ old ++ more
  pub at : AreAt Journal IsOf a depth new
  pub has : HasStateFor a (map Journal new) (Journal s)

-- these picks were tried
pub record Tries {S : Type 0} (Journal : S → List ℕ) (IsOf : S → Query → Type 0) (a : Query) (depth : ℕ) (s : S) (picks : List ℕ) (old new : List S) (moved : Bool) : Type 0 where
  pub more : List S
  pub longer : new ≡ old ++ more
  pub at : AreAt Journal IsOf a depth new
  pub has : All (λ pick. IsMovingAfter a.program (Journal s) pick → HasStateFor a (map Journal new) (Journal s ++ pick ∷ [])) picks
  pub idle : moved ≡ false → All (λ pick. IsIdleAfter a.program (Journal s) pick) picks
  pub moves : IsTrue moved → (pick : ℕ) × IsMovingAfter a.program (Journal s) pick

-- no answer is missing: the entries stay, and have that of the journal where a run ends with it
pub record KeepsEntries (a : Query) (journal : List ℕ) (es fs : List RestEntry) : Type 0 where
  pub same : fs ≡ es
  pub has : EndFor a journal → OneOf (EntryFor a journal) es

-- a run ends with the journal, none of the entries keeps what it keeps, and its entry is the last from now on
pub record GainsAnswer (a : Query) (journal : List ℕ) (es fs : List RestEntry) : Type 0 where
  pub longer : fs ≡ es ++ entry_for a journal ∷ []
  pub ends : EndFor a journal
  pub fresh : EachOf (λ e. e.kept ≡ kept_for a journal → ⊥) es

-- a state with which a run ends has its entry
abbrev pub Answers : Query → List ℕ → List RestEntry → List RestEntry → Type 0
Answers a journal es fs = KeepsEntries a journal es fs ⊎ GainsAnswer a journal es fs

-- the entry of the state is there, or comes last
abbrev pub AnswersEnd : {S : Type 0} → (S → List ℕ) → (S → Query → Type 0) → S → List RestEntry → List RestEntry → Type 0
AnswersEnd Journal IsOf s es fs = (a : Query) → IsOf s a → EndFor a (Journal s) → Answers a (Journal s) es fs

-- a state was tried, with more states after it; `left` says whether picks are left out
pub record TriesState {S : Type 0} (Journal : S → List ℕ) (IsOf : S → Query → Type 0) (left : Bool) (a : Query) (depth : ℕ) (s : S) (old new : List S) (es fs : List RestEntry) : Type 0 where
  pub more : List S
  pub longer : new ≡ old ++ more
  pub at : AreAt Journal IsOf a depth new
  pub next : HasNextBy left a (map Journal new) (Journal s)
  pub answers : Answers a (Journal s) es fs

-- some journals that are known, of which some were tried; the entries are those of the latter with which a run ends
pub record HaveTried (left : Bool) (a : Query) (depth : ℕ) (known tried : List (List ℕ)) (es : List RestEntry) : Type 0 where
  pub from : EachOf (JournalFor a) known
  pub first : HasStateFor a known a.before
  pub next : EachOf (HasNextBy left a known) tried
  pub entries : EachOf (λ j. EndFor a j → OneOf (EntryFor a j) es) tried
  pub shortest : EachOf (λ j. EndFor a j → EachOf (NoLongerFor a j) es) tried
  pub short : EachOf (λ e. length e.journal ≤ depth) es
  pub sound : AreSoundWithin a.admits a.question a.sessions a.program a.before es
  pub distinct : AreDistinct es

-- the states of a layer were tried, all of them where it is complete, and else until the next one has so many; `tried` are the journals before them
pub record TriesLayer {S : Type 0} (Journal : S → List ℕ) (IsOf : S → Query → Type 0) (left : Bool) (a : Query) (depth : ℕ) (tried : List (List ℕ)) (ss new : List S) (es : List RestEntry) (room : ℕ) (complete : Bool) : Type 0 where
  pub at : AreAt Journal IsOf a (depth + 1) new
  pub done : List (List ℕ)
  pub have : HaveTried left a depth ((tried ++ map Journal ss) ++ map Journal new) done es
  pub all : IsTrue complete → done ≡ tried ++ map Journal ss
  pub stops : complete ≡ false → room ≤ length new

-- whether the journal of the first state has room for a pick more: all journals of a layer are as long. A layer without states has room
abbrev pub HasLayerRoom : {S : Type 0} → (S → List ℕ) → List S → Bool → Type 0
HasLayerRoom Journal [] b = b ≡ true
HasLayerRoom Journal (s ∷ ss) b = IsTrue b ↔ (length (Journal s) < JOURNAL)

-- whether picks are left out, and it has no room
abbrev pub IsLayerFull : {S : Type 0} → Bool → (S → List ℕ) → List S → Bool → Type 0
IsLayerFull false Journal ss b = b ≡ false
IsLayerFull true Journal ss b = HasLayerRoom Journal ss (not b)

-- a run that is followed has a journal without room for a pick more
abbrev pub MeetsFullJournal : Query → Type 0
MeetsFullJournal a = (journal : List ℕ) × JournalFor a journal × (JOURNAL ≤ length journal)

-- so many journals go on from the first picks and are followed, or more than are counted; where all were tried and no picks are left out, they have all states
pub record CountsStates (left : Bool) (a : Query) (states : ℕ) (complete : Bool) : Type 0 where
  pub journals : List (List ℕ)
  pub from : EachOf (JournalFor a) journals
  pub count : states ≡ min (length journals) MAX
  pub all : IsTrue complete → left ≡ false → HaveAllFor a journals

-- the entries are sound, each keeps something else, and where all states were tried they are complete and shortest; else so many states were met
pub record Explores (left : Bool) (a : Query) (es : List RestEntry) (max_states states : ℕ) (whole : Bool) : Type 0 where
  pub sound : AreSoundWithin a.admits a.question a.sessions a.program a.before es
  pub distinct : AreDistinct es
  pub complete : IsTrue whole → AreCompleteWithin a.admits a.question a.sessions a.program a.before es
  pub shortest : IsTrue whole → AreShortestWithin a.admits a.question a.sessions a.program a.before es
  pub count : CountsStates left a states whole
  pub stops : whole ≡ false → max_states ≤ states
