use Rattle.std.proofs.Common.{◌∙◌, codes, refl}
use Rattle.def_wording.specs.ShapeTexts.{name_reason, three_parts_reason}
use Rattle.tn_refusal.proofs.ShapeReasons.{of_five, counted, no_three_parts}
use Rattle.tn_refusal.proofs.command_reasons.three_parts_reason.Goals as goal

pub returns-then-fields-eq5 : goal.returns-then-fields-eq5
returns-then-fields-eq5 g c =
    c.name_reason.ensures ∙ of_five (three_parts_reason c.args.shape.now) (name_reason (codes "S")) (λ t s u v w. refl) c.args.fields.now c.index-fields-1.result c.if-fields-eq5.true c.index-fields-1.is

pub returns-else-fields-eq5 : goal.returns-else-fields-eq5
returns-else-fields-eq5 g c = counted (three_parts_reason c.args.shape.now) (λ r. r) c.args.shape.now 5 (no_three_parts c.args.shape.now) c.args.fields.now c.if-fields-eq5.false
