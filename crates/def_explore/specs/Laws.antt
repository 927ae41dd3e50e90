-- What is promised of explorations (own).
-- Depends on all definitions of an exploration.
use Rattle.std.specs.Prelude.{◌≡◌, ◌<◌, ◌≤◌, ◌+◌, ◌⊎◌, ℕ, Bool, true, false, List, ◌∷◌, [], ◌++◌, length, Some}
use Rattle.std.specs.List.{Contains}
use Rattle.def_term.specs.Alive.{PROCESSES}
use Rattle.def_term.specs.Names.{Name}
use Rattle.def_spec.specs.Matching.{Pattern}
use Rattle.def_script.specs.Program.{Program}
use Rattle.def_run.specs.Run.{JOURNAL, moves}
use Rattle.def_run.specs.Round.{pass}
use Rattle.def_run.specs.Laws.{IsIdleAfter}
use Rattle.def_explore.specs.Rests.{IsMovingAfter, IsRestAfter, RunQuestion, KeptMessages}
use Rattle.def_explore.specs.Alike.{IsStateAlike, HasStateOf, is_pick_among, AreIndependent, IsReduced}
use Rattle.def_explore.specs.RunsToEnd.{IsEndAfter, IsFollowed, IsRunToEnd, AreSoundWithin, AreCompleteWithin, AreShortestWithin, IsClosed, HaveAllStates, IsReducedWithin, AreBelowLimit, all_runs}
use Rattle.def_explore.specs.Lists.{OneOf, EachOf}
use Rattle.def_explore.specs.Answers.{RestEntry, IsEntryFor, IsNoLonger, AreSound, AreComplete, AreCompleteBelow, AreShortest}
use Rattle.def_explore.specs.Words.{Word, always, never, sometimes, shows, IsTrueWord, AllShow, word_of, any_word, meets, PatternQuestion, refutes}

-- ---- alike

-- what leads to the same state does so with whatever comes after it
abbrev pub AlikeGoesOn : Type 0
AlikeGoesOn = (q : RunQuestion) (ss : List Name) (p : Program) (a b more : List ℕ) → IsStateAlike q ss p a b → IsStateAlike q ss p (a ++ more) (b ++ more)

-- picks lead to the same state as those of them that moved
abbrev pub MovesAreAlike : Type 0
MovesAreAlike = (q : RunQuestion) (ss : List Name) (p : Program) (a : List ℕ) → IsStateAlike q ss p a (moves p a)

-- after both of two alike the same picks are idle
abbrev pub AlikeAreIdleAlike : Type 0
AlikeAreIdleAlike = (q : RunQuestion) (ss : List Name) (p : Program) (a b : List ℕ) (pick : ℕ) → IsStateAlike q ss p a b → IsIdleAfter p b pick → IsIdleAfter p a pick

-- and as many picks moved in both
abbrev pub AlikeHaveMovedAlike : Type 0
AlikeHaveMovedAlike = (q : RunQuestion) (ss : List Name) (p : Program) (a b : List ℕ) → IsStateAlike q ss p a b → length (moves p a) ≡ length (moves p b)

-- an idle pick leads nowhere else
abbrev pub IdleIsAlike : Type 0
IdleIsAlike = (q : RunQuestion) (ss : List Name) (p : Program) (a : List ℕ) (pick : ℕ) → IsIdleAfter p a pick → IsStateAlike q ss p (a ++ pick ∷ []) a

-- ---- picks that may move

-- where at most 64 processes begin, a pick that moves is one of a pass
abbrev pub MovesAreOfAPass : Type 0
MovesAreOfAPass = (p : Program) (picks : List ℕ) (pick : ℕ) → length p.entries ≤ PROCESSES → IsMovingAfter p picks pick → Contains pass pick

-- ---- closed journals

-- where the journals have the first picks and are closed, they have all states of runs that are followed from those
abbrev pub ClosedJournalsHaveAll : Type 0
ClosedJournalsHaveAll =
    (admits : KeptMessages → Bool) (q : RunQuestion) (ss : List Name) (p : Program) (js : List (List ℕ)) (before : List ℕ) →
    HasStateOf q ss p js before → IsClosed admits q ss p js → HaveAllStates admits q ss p before js

-- each of the journals after which nothing moves has an entry
abbrev pub RestsHaveEntries : RunQuestion → List Name → Program → List (List ℕ) → List RestEntry → Type 0
RestsHaveEntries q ss p js es = EachOf (λ j. IsRestAfter p j → OneOf (IsEntryFor q ss p j) es) js

-- each of those with which a run ends has one
abbrev pub EndsHaveEntries : (KeptMessages → Bool) → RunQuestion → List Name → Program → List (List ℕ) → List RestEntry → Type 0
EndsHaveEntries admits q ss p js es = EachOf (λ j. IsEndAfter admits q ss p j → OneOf (IsEntryFor q ss p j) es) js

-- so that the entries are complete
abbrev pub ClosedJournalsAreComplete : Type 0
ClosedJournalsAreComplete =
    (admits : KeptMessages → Bool) (q : RunQuestion) (ss : List Name) (p : Program) (js : List (List ℕ)) (before : List ℕ) (es : List RestEntry) →
    HasStateOf q ss p js before → IsClosed admits q ss p js → EndsHaveEntries admits q ss p js es → AreCompleteWithin admits q ss p before es

-- no entry is longer than one of the journals with which a run ends and of which the same is kept
abbrev pub EndsAreNoShorter : (KeptMessages → Bool) → RunQuestion → List Name → Program → List (List ℕ) → List RestEntry → Type 0
EndsAreNoShorter admits q ss p js es = EachOf (λ j. IsEndAfter admits q ss p j → EachOf (IsNoLonger q ss p j) es) js

-- so that none is longer than any run to its end of which the same is kept
abbrev pub ClosedJournalsAreShortest : Type 0
ClosedJournalsAreShortest =
    (admits : KeptMessages → Bool) (q : RunQuestion) (ss : List Name) (p : Program) (js : List (List ℕ)) (before : List ℕ) (es : List RestEntry) →
    HasStateOf q ss p js before → IsClosed admits q ss p js → EndsAreNoShorter admits q ss p js es → AreShortestWithin admits q ss p before es

-- ---- all runs

-- where each run is followed, entries of runs to their ends are of runs to rest
abbrev pub AllRunsAreSound : Type 0
AllRunsAreSound = (q : RunQuestion) (ss : List Name) (p : Program) (before : List ℕ) (es : List RestEntry) → AreSoundWithin all_runs q ss p before es → AreSound q ss p before es

-- they are complete
abbrev pub AllRunsAreComplete : Type 0
AllRunsAreComplete = (q : RunQuestion) (ss : List Name) (p : Program) (before : List ℕ) (es : List RestEntry) → AreCompleteWithin all_runs q ss p before es → AreComplete q ss p before es

-- and shortest
abbrev pub AllRunsAreShortest : Type 0
AllRunsAreShortest = (q : RunQuestion) (ss : List Name) (p : Program) (before : List ℕ) (es : List RestEntry) → AreShortestWithin all_runs q ss p before es → AreShortest q ss p before es

-- ---- one answer

-- each of these entries is among those, with a journal that is as long
abbrev pub HaveTheSame : List RestEntry → List RestEntry → Type 0
HaveTheSame es fs = EachOf (λ e. OneOf (λ f. (f.kept ≡ e.kept) × (length f.journal ≡ length e.journal)) fs) es

-- entries that are sound and shortest are among all that are so and complete
abbrev pub EntriesAreDetermined : Type 0
EntriesAreDetermined =
    (admits : KeptMessages → Bool) (q : RunQuestion) (ss : List Name) (p : Program) (before : List ℕ) (es fs : List RestEntry) →
    AreSoundWithin admits q ss p before es → AreShortestWithin admits q ss p before es →
    AreSoundWithin admits q ss p before fs → AreShortestWithin admits q ss p before fs → AreCompleteWithin admits q ss p before fs →
    HaveTheSame es fs

-- ---- words

-- the same word, whichever its journals are
abbrev pub is_same_word : Word → Word → Type 0
is_same_word (always j) (always k) = Unit {0}
is_same_word (never j) (never k) = Unit {0}
is_same_word (sometimes j k) (sometimes l m) = Unit {0}
is_same_word _ _ = ⊥

-- where all entries that are complete say it alike, all runs do
abbrev pub EntriesShowAll : Type 0
EntriesShowAll =
    (q : RunQuestion) (a : Pattern) (ss : List Name) (p : Program) (before : List ℕ) (es : List RestEntry) (b : Bool) →
    AreComplete q ss p before es → EachOf (λ e. shows a e.kept ≡ b) es → AllShow q a ss p before b

-- the word that sound entries give is true; where all states were tried, they are complete
abbrev pub WordOfEntriesIsTrue : Type 0
WordOfEntriesIsTrue =
    (q : RunQuestion) (a : Pattern) (ss : List Name) (p : Program) (before : List ℕ) (es : List RestEntry) (whole : Bool) (word : Word) →
    AreSound q ss p before es → (whole ≡ true → AreComplete q ss p before es) → word_of a es whole ≡ Some word → IsTrueWord q a ss p before word

-- no true word is as demanded, where they refute the demand
abbrev pub NoTrueWordMeetsWhatIsRefuted : Type 0
NoTrueWordMeetsWhatIsRefuted =
    (q : RunQuestion) (a : PatternQuestion) (ss : List Name) (p : Program) (before : List ℕ) (es : List RestEntry) (whole : Bool) (word : Word) →
    AreSound q ss p before es → (whole ≡ true → AreComplete q ss p before es) → refutes es whole a ≡ true → IsTrueWord q a.pattern ss p before word → meets a.demand word ≡ false

-- where all states were tried and the demand isn't refuted, the entries' word is as demanded
abbrev pub WordMeetsWhatIsNotRefuted : Type 0
WordMeetsWhatIsNotRefuted =
    (a : PatternQuestion) (es : List RestEntry) → refutes es true a ≡ false → (a.demand ≡ any_word) ⊎ ((word : Word) × (word_of a.pattern es true ≡ Some word) × (meets a.demand word ≡ true))

-- of a pattern one word is true at most
abbrev pub WordIsOne : Type 0
WordIsOne = (q : RunQuestion) (a : Pattern) (ss : List Name) (p : Program) (before : List ℕ) (v w : Word) → IsTrueWord q a ss p before v → IsTrueWord q a ss p before w → is_same_word v w

-- ---- picks that can go first

-- below the journal's limit a run to rest leads to the same state as one that begins with one of some picks which are independent of all others, and goes on with its other picks
abbrev pub IndependentPicksGoFirst : Type 0
IndependentPicksGoFirst =
    (q : RunQuestion) (ss : List Name) (p : Program) (j more : List ℕ) (ts : List ℕ) (one : ℕ) → is_pick_among one ts ≡ true → AreIndependent q ss p j ts → IsRestAfter p (j ++ more) → length (moves p (j ++ more)) < JOURNAL →
    (t : ℕ) × (rest : List ℕ) × (is_pick_among t ts ≡ true) × (length rest + 1 ≡ length more) × IsStateAlike q ss p (j ++ more) (j ++ t ∷ rest)

-- where the journals have the first picks, and after each of them all picks are tried or such alone, they have each run to rest that didn't meet the journal's limit
abbrev pub ReducedJournalsHaveRests : Type 0
ReducedJournalsHaveRests =
    (q : RunQuestion) (ss : List Name) (p : Program) (js : List (List ℕ)) (before more : List ℕ) →
    HasStateOf q ss p js before → IsReduced q ss p js → IsRestAfter p (before ++ more) → length (moves p (before ++ more)) < JOURNAL → HasStateOf q ss p js (before ++ more)

-- and their entries are complete
abbrev pub ReducedJournalsAreComplete : Type 0
ReducedJournalsAreComplete =
    (q : RunQuestion) (ss : List Name) (p : Program) (js : List (List ℕ)) (before : List ℕ) (es : List RestEntry) →
    HasStateOf q ss p js before → IsReduced q ss p js → RestsHaveEntries q ss p js es → AreCompleteBelow q ss p before es

-- where none of them is full, no run that is followed fills the journal
abbrev pub ReducedJournalsBoundRuns : Type 0
ReducedJournalsBoundRuns =
    (admits : KeptMessages → Bool) (q : RunQuestion) (ss : List Name) (p : Program) (js : List (List ℕ)) (before more : List ℕ) →
    HasStateOf q ss p js before → IsReducedWithin admits q ss p js → AreBelowLimit p js → IsFollowed admits q ss p before more → length (moves p (before ++ more)) < JOURNAL

-- so that they have each run that is followed to its end
abbrev pub ReducedJournalsHaveEnds : Type 0
ReducedJournalsHaveEnds =
    (admits : KeptMessages → Bool) (q : RunQuestion) (ss : List Name) (p : Program) (js : List (List ℕ)) (before more : List ℕ) →
    HasStateOf q ss p js before → IsReducedWithin admits q ss p js → AreBelowLimit p js → IsRunToEnd admits q ss p before more → HasStateOf q ss p js (before ++ more)

-- their entries are complete
abbrev pub ReducedEndsAreComplete : Type 0
ReducedEndsAreComplete =
    (admits : KeptMessages → Bool) (q : RunQuestion) (ss : List Name) (p : Program) (js : List (List ℕ)) (before : List ℕ) (es : List RestEntry) →
    HasStateOf q ss p js before → IsReducedWithin admits q ss p js → AreBelowLimit p js → EndsHaveEntries admits q ss p js es → AreCompleteWithin admits q ss p before es

-- and shortest
abbrev pub ReducedEndsAreShortest : Type 0
ReducedEndsAreShortest =
    (admits : KeptMessages → Bool) (q : RunQuestion) (ss : List Name) (p : Program) (js : List (List ℕ)) (before : List ℕ) (es : List RestEntry) →
    HasStateOf q ss p js before → IsReducedWithin admits q ss p js → AreBelowLimit p js → EndsAreNoShorter admits q ss p js es → AreShortestWithin admits q ss p before es
