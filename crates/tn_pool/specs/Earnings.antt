-- The receipts that a worker's seat earns.
-- Depends on what a turn does to a seat.
use Rattle.std.specs.Prelude.{◌≡◌, ◌+◌, ◌≤◌, ℕ, nat_eq, List, [], ◌∷◌, ◌++◌, vec_len, MatchBool}
use Rattle.def_script.specs.Program.{Program}
use Rattle.tn_live.specs.declared.entry.Entry.{Entry}
use Rattle.tn_live.specs.declared.entry.Receipt.{Receipt}
use Rattle.tn_live.specs.States.{SeatState, seat_of}
use Rattle.tn_live.specs.SeatTurns.{IsReceipt}
use Rattle.tn_pool.specs.declared.worker.Worker.{Worker}

-- the receipts are one for each of these entries that is the seat's own, in their order; the entries before them are given first
abbrev pub Earns : {A : Type 0} → Program → ℕ → List Entry → List Entry → List (Receipt A) → Type 0
Earns p seat before [] receipts = receipts ≡ []
Earns {A} p seat before (e ∷ rest) receipts =
    MatchBool (nat_eq e.seat seat)
    ((r : Receipt A) × (more : List (Receipt A)) × (receipts ≡ r ∷ more) × IsReceipt p seat before e.pick r × Earns p seat (before ++ e ∷ []) rest more)
    (Earns p seat (before ++ e ∷ []) rest receipts)

-- the seat has seen more, and these are the receipts of its own entries in that
pub record Works {A : Type 0} (p : Program) (s t : SeatState) (receipts : List (Receipt A)) : Type 0 where
  pub gained : List Entry
  pub seen : t ≡ seat_of s.number (s.seen ++ gained)
  pub earned : Earns p s.number s.seen gained receipts

-- the worker has the receipts that it had, and then those that its seat has earned since
pub record WorksOn {A J : Type 0} (p : Program) (old new : Worker A J) : Type 0 where
  pub more : List (Receipt A)
  pub receipts : new.receipts.items ≡ old.receipts.items ++ more
  pub works : Works p old.seat new.seat more

-- of which there are at most so many
pub record WorksFew {A J : Type 0} (p : Program) (most : ℕ) (old new : Worker A J) : Type 0 where
  pub works : WorksOn p old new
  pub few : vec_len new.receipts ≤ vec_len old.receipts + most

-- the worker's seat and receipts stay
pub record StaysSo {A J : Type 0} (old new : Worker A J) : Type 0 where
  pub seat : new.seat ≡ old.seat
  pub receipts : new.receipts ≡ old.receipts
