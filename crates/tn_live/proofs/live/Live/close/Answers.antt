use Rattle.std.proofs.Common.{ap}
use Rattle.tn_live.proofs.live.Live.close.Goals as goal

pub returns-in-Some-into_closed : goal.returns-in-Some-into_closed
returns-in-Some-into_closed g c = (rw (c.as_slice.ensures.value, ap (λ l. l.seats) c.self.view_is) at c.in-None.ensures.none, rw c.as_slice-in-None.ensures.value at c.in-Some-into_closed.ensures)

pub returns : goal.returns
returns g c = rw (c.as_slice.ensures.value, ap (λ l. l.seats) c.self.view_is) at c.in-None.ensures.none
