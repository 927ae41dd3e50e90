-- The text of picks that a reader holds (own).
use Rattle.std.specs.Prelude.{◌≡◌, ◌≢◌, ◌⊎◌, ℕ, List, [], ◌∷◌, ◌++◌, Option}
use Rattle.tn_text.specs.declared.watched.Watched.{Watched}
use Rattle.tn_run.specs.Ends.{TookText}

-- all bytes before a line feed at the end, or all where none is there
abbrev pub IsWithoutLineFeed : List ℕ → List ℕ → Type 0
IsWithoutLineFeed text bytes = (text ≡ bytes ++ 10 ∷ []) ⊎ ((text ≡ bytes) × ((front : List ℕ) → text ≢ front ++ 10 ∷ []))

-- a text is gone from the reader, and these are its bytes without that line feed
abbrev pub TookPicks : {R : Type 0} → (R → Option (List ℕ)) → (old new : Watched R) → List ℕ → Type 0
TookPicks known old new bytes = (text : List ℕ) × TookText known old new text × IsWithoutLineFeed text bytes
