use Rattle.std.proofs.Common.{◌∙◌, refl}
use Rattle.std.specs.Option.{option_or}
use Rattle.def_wording.specs.ShapeTexts.{names_reason, arguments_reason, process_shape_reason}
use Rattle.tn_refusal.proofs.ShapeReasons.{of_four, counted_process, command_elements, or_seen}
use Rattle.tn_refusal.proofs.shape_reasons.process_reason.Goals as goal

pub returns-then-fields-eq5 : goal.returns-then-fields-eq5
returns-then-fields-eq5 g c = command_elements c.args.fields.now c.if-fields-eq5.true

pub returns-then-fields-ne4 : goal.returns-then-fields-ne4
returns-then-fields-ne4 g c = counted_process c.args.fields.now c.if-fields-eq5.false c.if-fields-ne4.true

pub returns : goal.returns
returns g c =
    or_seen c.names_reason.result c.arguments_reason.result c.or.result c.or.ensures c.names_reason.ensures c.arguments_reason.ensures
    ∙ of_four process_shape_reason (λ m f a. option_or (names_reason m f) (arguments_reason a)) (λ t m f a. refl) c.args.fields.now c.index-fields-1.result c.index-fields-2.result c.index-fields-3.result c.if-fields-ne4.false
    c.index-fields-1.is c.index-fields-2.is c.index-fields-3.is
