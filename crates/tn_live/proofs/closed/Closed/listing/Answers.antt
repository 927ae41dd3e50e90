use Rattle.tn_live.proofs.closed.Closed.listing.Goals as goal

pub returns-in-Ok : goal.returns-in-Ok
returns-in-Ok g c = rw (← c.self.view_is) (rw c.self.invariant.core at c.in-Ok.ensures.listing)

pub returns-in-Err : goal.returns-in-Err
returns-in-Err g c = absurd (rw c.self.invariant.core at c.in-Err.ensures.listing)
