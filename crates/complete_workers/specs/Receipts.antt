-- What contracts see of receipts and of lines, and when two reports are the same.
use Rattle.std.specs.Prelude.{◌≡◌, ℕ, List, map}
use Rattle.tn_listing.specs.declared.line.Line.{Line}
use Rattle.tn_live.specs.States.{SeatState}
use Rattle.tn_pool.specs.declared.report.Report.{Report}
use Rattle.complete_live.specs.Alike.{receipt_seen}

abbrev pub seat_numbers : List SeatState → List ℕ
seat_numbers seats = map (λ s. s.number) seats

-- where the seats have seen the same, the receipts are the same
abbrev pub EarnAlike : {A J : Type 0} → Report A J → Report A J → Type 0
EarnAlike one other = one.seats.items ≡ other.seats.items → map receipt_seen one.receipts.items ≡ map receipt_seen other.receipts.items

-- both lines are of one session, and have one index
pub record ArePlacedAlike {A : Type 0} (one other : Line A) : Type 0 where
  pub session : one.item.session ≡ other.item.session
  pub index : one.item.index ≡ other.item.index
