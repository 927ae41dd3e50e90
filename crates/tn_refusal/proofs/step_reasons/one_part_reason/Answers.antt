use Rattle.std.proofs.Common.{None, refl}
use Rattle.def_wording.specs.ShapeTexts.{one_part_reason}
use Rattle.tn_refusal.proofs.ShapeReasons.{two_of_any, counted, no_one_part}
use Rattle.tn_refusal.proofs.step_reasons.one_part_reason.Goals as goal

pub returns-then-fields-eq2 : goal.returns-then-fields-eq2
returns-then-fields-eq2 g c = two_of_any (one_part_reason c.args.shape.now) None (λ x y. refl) c.args.fields.now c.if-fields-eq2.true

pub returns-else-fields-eq2 : goal.returns-else-fields-eq2
returns-else-fields-eq2 g c = counted (one_part_reason c.args.shape.now) (λ r. r) c.args.shape.now 2 (no_one_part c.args.shape.now) c.args.fields.now c.if-fields-eq2.false
