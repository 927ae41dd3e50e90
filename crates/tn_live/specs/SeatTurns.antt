-- What a turn does to a seat and to the book.
use Rattle.std.specs.Prelude.{◌≡◌, ℕ, suc, ◌<◌, List, [], ◌∷◌, ◌++◌, length, map, Some, Ok, Err, Result}
use Rattle.def_script.specs.Program.{Program}
use Rattle.def_run.specs.Run.{JOURNAL}
use Rattle.def_run.specs.Laws.{IsIdleAfter}
use Rattle.def_run.specs.Listing.{answer}
use Rattle.tn_trace.specs.Items.{item_seen}
use Rattle.tn_trace.specs.declared.item.StepFault.{StepFault}
use Rattle.tn_trace.specs.declared.item.StepFault.TheVariants.{LimitReached, Spent, OutOfMemory}
use Rattle.tn_live.specs.declared.entry.Entry.{Entry}
use Rattle.tn_live.specs.declared.entry.Turn.{Turn}
use Rattle.tn_live.specs.declared.entry.Turn.TheVariants.{Moved, Idle}
use Rattle.tn_live.specs.declared.entry.Receipt.{Receipt}
use Rattle.tn_live.specs.Journal.{entry, picks_of, made_by, last_by}
use Rattle.tn_live.specs.States.{BookState, SeatState, book_of, spent_book, seat_of, MovesAfter}

-- the receipt is for that pick of that seat after these entries, and its items are what the move adds
pub record IsReceipt {A : Type 0} (program : Program) (seat : ℕ) (before : List Entry) (pick : ℕ) (r : Receipt A) : Type 0 where
  pub by : r.seat ≡ seat
  pub at : r.number ≡ length before
  pub picked : r.pick ≡ pick
  pub answered : map item_seen r.items.items ≡ answer program (picks_of before ++ pick ∷ []) (length before)

-- what the seat had seen, then entries of other seats
pub record FollowsEntries (s : SeatState) (seen : List Entry) : Type 0 where
  pub between : List Entry
  pub after : seen ≡ s.seen ++ between
  pub others : made_by s.number between ≡ 0

-- what the seat has seen afterwards: what it had seen, then entries of other seats, and at Moved its own; the journal had room where the answer is no fault
abbrev pub SeatTurns : {A : Type 0} → Program → SeatState → ℕ → Result (Turn A) StepFault → SeatState → Type 0
SeatTurns p s pick (Ok (Moved r)) t =
    (before : List Entry) × FollowsEntries s before × (t ≡ seat_of s.number (before ++ entry s.number pick ∷ []))
    × MovesAfter p before pick × IsReceipt p s.number before pick r × (length before < JOURNAL)
SeatTurns p s pick (Ok (Idle front)) t =
    FollowsEntries s t.seen × (t ≡ seat_of s.number t.seen)
    × IsIdleAfter p (picks_of t.seen) pick × (front ≡ length t.seen) × (length t.seen < JOURNAL)
SeatTurns p s pick (Err LimitReached) t = FollowsEntries s t.seen × (t ≡ seat_of s.number t.seen) × (length t.seen ≡ JOURNAL)
SeatTurns p s pick (Err Spent) t = t ≡ s
SeatTurns p s pick (Err OutOfMemory) t = t ≡ s

-- at Moved the seat made one more entry, whose number is the receipt's; else its count and its latest entry stay
abbrev pub SeatCounts : {A : Type 0} → SeatState → Result (Turn A) StepFault → SeatState → Type 0
SeatCounts s (Ok (Moved r)) t = (made_by t.number t.seen ≡ suc (made_by s.number s.seen)) × (last_by t.number t.seen ≡ Some r.number)
SeatCounts s (Ok (Idle front)) t = (made_by t.number t.seen ≡ made_by s.number s.seen) × (last_by t.number t.seen ≡ last_by s.number s.seen)
SeatCounts s (Err fault) t = (made_by t.number t.seen ≡ made_by s.number s.seen) × (last_by t.number t.seen ≡ last_by s.number s.seen)

-- what the book is afterwards, which the seat has seen whole
abbrev pub BookTurns : {A : Type 0} → Program → BookState → ℕ → ℕ → Result (Turn A) StepFault → BookState → List Entry → Type 0
BookTurns p b seat pick (Ok (Moved r)) c seen =
    (length b.entries < JOURNAL) × MovesAfter p b.entries pick
    × (c ≡ book_of (b.entries ++ entry seat pick ∷ [])) × (seen ≡ c.entries)
BookTurns p b seat pick (Ok (Idle front)) c seen =
    (length b.entries < JOURNAL) × IsIdleAfter p (picks_of b.entries) pick × (c ≡ b) × (seen ≡ b.entries)
BookTurns p b seat pick (Err LimitReached) c seen = (length b.entries ≡ JOURNAL) × (c ≡ b) × (seen ≡ b.entries)
BookTurns p b seat pick (Err Spent) c seen = ⊥
BookTurns p b seat pick (Err OutOfMemory) c seen = c ≡ spent_book
