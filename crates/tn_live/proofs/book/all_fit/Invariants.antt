use Rattle.std.proofs.Common.{All, take}
use Rattle.tn_live.specs.States.{SeatFits}
use Rattle.tn_live.proofs.book.all_fit.Given as goal

abbrev pub invariant-loop-seat : goal.invariant-loop-seat
invariant-loop-seat g l = All (λ s. SeatFits l.book s) (take l.seat-index l.seats)
