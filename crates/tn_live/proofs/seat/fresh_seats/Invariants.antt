use Rattle.tn_live.specs.States.{AreFresh}
use Rattle.tn_live.proofs.seat.fresh_seats.Given as goal

abbrev pub invariant-loop-number : goal.invariant-loop-number
invariant-loop-number g l = AreFresh l.number l.seats.items
