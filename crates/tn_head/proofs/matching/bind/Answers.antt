use Rattle.tn_head.proofs.Walk.{answered}
use Rattle.tn_head.proofs.matching.bind.Goals as goal

pub returns-clause-answer : goal.returns-clause-answer
returns-clause-answer g c = answered _ _ _ c.in_ok-walk.ensures
