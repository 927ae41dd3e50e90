use Rattle.std.proofs.Common.{◌∙◌, codes, refl, ap}
use Rattle.std.specs.Option.{option_or}
use Rattle.def_wording.specs.ShapeTexts.{of_part, function_parts_reason, steps_reason, function_shape_reason}
use Rattle.tn_refusal.specs.ShapeReasons.{of_parts}
use Rattle.tn_refusal.proofs.ShapeReasons.{of_six, counted, no_function, or_seen_of_form}
use Rattle.tn_refusal.proofs.shape_reasons.function_reason.Goals as goal

pub returns-then-fields-ne6 : goal.returns-then-fields-ne6
returns-then-fields-ne6 g c = c.of_part.ensures ∙ counted function_shape_reason of_part (codes "{function,M,F,Vis,Params,Steps}") 6 no_function c.args.fields.now c.if-fields-ne6.true

pub returns : goal.returns
returns g c =
    or_seen_of_form c.of_part-2.result c.steps_reason.result c.or.result c.or.ensures (c.of_part-2.ensures ∙ ap of_parts c.function_parts_reason.ensures) c.steps_reason.ensures
    ∙ of_six function_shape_reason (λ m f v p s. option_or (of_parts (function_parts_reason m f v p)) (steps_reason s)) (λ t m f v p s. refl) c.args.fields.now
    c.index-fields-1.result c.index-fields-2.result c.index-fields-3.result c.index-fields-4.result c.index-fields-5.result c.if-fields-ne6.false c.index-fields-1.is c.index-fields-2.is c.index-fields-3.is c.index-fields-4.is c.index-fields-5.is
