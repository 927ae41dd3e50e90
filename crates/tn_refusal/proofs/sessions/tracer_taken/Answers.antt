use Rattle.tn_refusal.proofs.sessions.tracer_taken.Goals as goal

pub returns-in-SessionCreate : goal.returns-in-SessionCreate
returns-in-SessionCreate g c = rw c.in-SessionCreate.is c.holder_of.ensures
