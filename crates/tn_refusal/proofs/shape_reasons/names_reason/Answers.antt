use Rattle.tn_refusal.proofs.ShapeReasons.{or_seen}
use Rattle.tn_refusal.proofs.shape_reasons.names_reason.Goals as goal

pub returns : goal.returns
returns g c = or_seen c.name_reason.result c.name_reason-2.result c.or.result c.or.ensures c.name_reason.ensures c.name_reason-2.ensures
