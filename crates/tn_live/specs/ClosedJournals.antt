-- What a closed journal is, and which receipts it confirms.
use Rattle.std.specs.Prelude.{◌≡◌, ℕ, ◌<◌, ◌≢◌, List, length, map, Some, slice_get, All, sum_by, Ok, Err, Result}
use Rattle.def_script.specs.Program.{Program}
use Rattle.def_run.specs.Listing.{answer}
use Rattle.tn_trace.specs.Items.{item_seen}
use Rattle.tn_live.specs.declared.entry.Entry.{Entry}
use Rattle.tn_live.specs.declared.entry.Receipt.{Receipt}
use Rattle.tn_live.specs.declared.live.CloseFault.{CloseFault}
use Rattle.tn_live.specs.declared.live.CloseFault.TheVariants.{Spent, MissingSeat}
use Rattle.tn_live.specs.Journal.{entry, picks_of, made_by}
use Rattle.tn_live.specs.States.{LiveState, SeatState, HasPrefix}

-- the entry at the receipt's number has its seat and pick, and the answer there has its items
pub record Confirms {A : Type 0} (program : Program) (entries : List Entry) (r : Receipt A) : Type 0 where
  pub entered : slice_get entries r.number ≡ Some (entry r.seat r.pick)
  pub answered : map item_seen r.items.items ≡ answer program (picks_of entries) r.number

-- how many entries the seats made
abbrev pub made_in_all : List SeatState → ℕ
made_in_all seats = sum_by (λ s. made_by s.number s.seen) seats

-- no seat has the number
abbrev pub LacksSeat : List SeatState → ℕ → Type 0
LacksSeat seats n = All (λ s. s.number ≢ n) seats

-- below the count each number is one of a seat
abbrev pub AreHanded : List SeatState → ℕ → Type 0
AreHanded seats count = (n : ℕ) → n < count → LacksSeat seats n → ⊥

-- each entry is one of a seat
abbrev pub AreEntered : List SeatState → List Entry → Type 0
AreEntered seats entries = All (λ e. LacksSeat seats e.seat → ⊥) entries

-- the number is the least below the count that no seat has
pub record IsMissing (seats : List SeatState) (count missing : ℕ) : Type 0 where
  pub below : missing < count
  pub lacks : LacksSeat seats missing
  pub least : AreHanded seats missing

-- each seat's seen begins the journal, which has no later entry of that seat, and the entries are those that the seats made
pub record EndsJournal (seats : List SeatState) (entries : List Entry) : Type 0 where
  pub begins : All (λ s. HasPrefix entries s.number s.seen) seats
  pub entered : AreEntered seats entries
  pub all_made : length entries ≡ made_in_all seats

-- what a close answers. A missing seat is looked for first, and then the seats come back, and the lock of the same log
abbrev pub Closes : {A J : Type 0} → LiveState → List SeatState → Result (List Entry) (CloseFault A J) → Type 0
Closes live seats (Ok closed) = AreHanded seats live.seats × EndsJournal seats closed
Closes live seats (Err Spent) = AreHanded seats live.seats
Closes live seats (Err (MissingSeat missing back handed)) = (back ≡ live) × (handed.items ≡ seats) × IsMissing seats live.seats missing
