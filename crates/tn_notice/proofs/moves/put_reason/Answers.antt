use Rattle.tn_notice.proofs.moves.put_reason.Goals as goal

pub returns-in-NoStart-clause-ok : goal.returns-in-NoStart-clause-ok
returns-in-NoStart-clause-ok g c = rw c.in-NoStart.is c.put_no_start.ensures.ok
