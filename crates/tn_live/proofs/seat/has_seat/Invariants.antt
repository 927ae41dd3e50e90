use Rattle.std.proofs.Common.{take}
use Rattle.tn_live.specs.ClosedJournals.{LacksSeat}
use Rattle.tn_live.proofs.seat.has_seat.Given as goal

abbrev pub invariant-loop-seat : goal.invariant-loop-seat
invariant-loop-seat g l = LacksSeat (take l.seat-index l.seats) l.number
