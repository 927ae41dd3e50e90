use Rattle.tn_live.proofs.Journals.{fresh_more}
use Rattle.tn_live.proofs.seat.fresh_seats.Goals as goal

pub loop-number-preserved : goal.loop-number-preserved
loop-number-preserved g c = rw (c.in_ok-push.ensures.items, c.fresh_seat.ensures) (fresh_more c.loop-number.seats.items c.loop-number.number c.loop-number.invariant)
