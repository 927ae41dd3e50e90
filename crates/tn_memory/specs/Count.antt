-- The rule of the word that holds the count, and what is known after a step on it.
use Rattle.std.specs.Prelude.{ℕ, ◌≡◌, ◌==◌, true, List, [], ◌∷◌, ◌++◌, MatchBool}
use Rattle.logbook.specs.Pages.{Cell, Step, View, Book, Named}
use Rattle.tn_memory.specs.declared.history.Use.{Use}
use Rattle.tn_memory.specs.History.{in_use, IsWithinBound}

-- the word holds how many bytes are in use after the history, and these are no more than may be
pub record IsCountWord (cells : List Cell) (history : List Use) : Type 0 where
  pub words : cells ≡ (in_use history, true) ∷ []
  pub within : IsWithinBound history

-- the word of a book
abbrev pub count_word : Book → Named
count_word b = record { tracked = true; key = 0; book = b }

-- so many bytes are in use after a history, which are no more than may be
pub record FindsCount (found : ℕ) (history : List Use) : Type 0 where
  pub count : found ≡ in_use history
  pub within : IsWithinBound history

-- the history so far was seen, and how many bytes are in use after it
abbrev pub Looks : Step Use → View Use ℕ → ℕ → View Use ℕ → Type 0
Looks s v found w = FindsCount found w.0

-- the use was added to a history after which as many bytes were in use as was expected
pub record HasUse (old : ℕ) (one : Use) (history : List Use) : Type 0 where
  pub before : List Use
  pub last : history ≡ before ++ one ∷ []
  pub expected : in_use before ≡ old

-- the use was added; or the history is another one, and was seen
abbrev pub AddsUse : Step Use → View Use ℕ → ℕ → View Use ℕ → Type 0
AddsUse s v found w = MatchBool (found == s.old) (HasUse s.old s.ask w.0) (FindsCount found w.0)
