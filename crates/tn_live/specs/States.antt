-- What contracts see of a book, a seat and a lock, and which seats fit a book.
use Rattle.std.specs.Prelude.{◌≡◌, ℕ, ◌<◌, Bool, true, false, List, [], ◌∷◌, ◌++◌, length, slice_get, Some}
use Rattle.def_script.specs.Program.{Program}
use Rattle.def_run.specs.Run.{moves}
use Rattle.logbook.specs.Pages.{Book}
use Rattle.tn_live.specs.declared.entry.Entry.{Entry}
use Rattle.tn_live.specs.Journal.{picks_of, made_by}

pub record BookState : Type 0 where
  pub spent : Bool
  pub entries : List Entry

pub record SeatState : Type 0 where
  pub number : ℕ
  pub seen : List Entry

-- how many seats a lock has, and the log that names it. Its program is that of its type
pub record LiveState : Type 0 where
  pub seats : ℕ
  pub log : Book

-- a book that isn't spent
abbrev pub book_of : List Entry → BookState
book_of entries = record { spent = false; entries = entries }

-- a book that is spent
abbrev pub spent_book : BookState
spent_book = record { spent = true; entries = [] }

abbrev pub seat_of : ℕ → List Entry → SeatState
seat_of number seen = record { number = number; seen = seen }

abbrev pub live_of : ℕ → Book → LiveState
live_of seats log = record { seats = seats; log = log }

-- these entries are a journal of the program: each of their picks moves after those before it
abbrev pub IsJournal : Program → List Entry → Type 0
IsJournal program entries = moves program (picks_of entries) ≡ picks_of entries

-- after these entries the pick moves
abbrev pub MovesAfter : Program → List Entry → ℕ → Type 0
MovesAfter program entries pick = moves program (picks_of entries ++ pick ∷ []) ≡ picks_of entries ++ pick ∷ []

-- the seen list begins the journal, which has no later entry of the seat
abbrev pub HasPrefix : List Entry → ℕ → List Entry → Type 0
HasPrefix entries number seen = (rest : List Entry) × (entries ≡ seen ++ rest) × (made_by number rest ≡ 0)

-- the book isn't spent, and what the seat has seen begins its journal with no later entry of that seat
abbrev pub SeatFits : BookState → SeatState → Type 0
SeatFits b s = (b.spent ≡ false) × HasPrefix b.entries s.number s.seen

-- so many seats, numbered from 0, have seen nothing
pub record AreFresh (count : ℕ) (seats : List SeatState) : Type 0 where
  pub all : length seats ≡ count
  pub each : (n : ℕ) → n < count → slice_get seats n ≡ Some (seat_of n [])
