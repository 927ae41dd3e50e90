-- The rule of the log, and what a step on it tells.
use Rattle.std.specs.Prelude.{ℕ, ◌≡◌, ◌==◌, true, List, [], ◌∷◌, ◌++◌, length}
use Rattle.logbook.specs.Pages.{Cell, Step, View, Book, Named}
use Rattle.tn_live.specs.declared.entry.Entry.{Entry}

-- the first word is the log's length. A log has two words, of which this one leaves the second at 0
abbrev pub IsLogOf : List Cell → List Entry → Type 0
IsLogOf cells log = cells ≡ (length log, true) ∷ (0, true) ∷ []

abbrev pub log_head : Book → Named
log_head b = record { tracked = true; key = 0; book = b }

-- where the word was as was thought, the entry was added to all that had been seen
abbrev pub AddsToLog : Step Entry → View Entry ℕ → ℕ → View Entry ℕ → Type 0
AddsToLog s v found w = (found == s.old) ≡ true → w.0 ≡ v.0 ++ s.ask ∷ []
