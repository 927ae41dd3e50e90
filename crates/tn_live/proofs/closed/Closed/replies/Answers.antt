use Rattle.tn_live.proofs.closed.Closed.replies.Goals as goal

pub returns-in-Err : goal.returns-in-Err
returns-in-Err g c = absurd (rw c.self.invariant.core at c.in-Err.ensures.replies)
