use Rattle.std.proofs.Common.{◌∙◌, codes, refl}
use Rattle.def_wording.specs.ShapeTexts.{of_part, commands_shape_reason, control_shape_reason}
use Rattle.tn_refusal.proofs.ShapeReasons.{of_two, counted, no_control}
use Rattle.tn_refusal.proofs.shape_reasons.control_reason.Goals as goal

pub returns-then-fields-eq2 : goal.returns-then-fields-eq2
returns-then-fields-eq2 g c =
    c.commands_reason.ensures ∙ of_two control_shape_reason commands_shape_reason (λ x y. refl) c.args.fields.now c.index-fields-1.result c.if-fields-eq2.true c.index-fields-1.is

pub returns-else-fields-eq2 : goal.returns-else-fields-eq2
returns-else-fields-eq2 g c = c.of_part.ensures ∙ counted control_shape_reason of_part (codes "{control,Commands}") 2 no_control c.args.fields.now c.if-fields-eq2.false
