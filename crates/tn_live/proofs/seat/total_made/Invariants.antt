use Rattle.std.proofs.Common.{◌≡◌, take}
use Rattle.tn_live.specs.ClosedJournals.{made_in_all}
use Rattle.tn_live.proofs.seat.total_made.Given as goal

abbrev pub invariant-loop-seat : goal.invariant-loop-seat
invariant-loop-seat g l = l.total ≡ made_in_all (take l.seat-index l.seats)
