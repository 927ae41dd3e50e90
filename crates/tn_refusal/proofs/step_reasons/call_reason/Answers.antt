use Rattle.std.proofs.Common.{◌∙◌, refl}
use Rattle.std.specs.Option.{option_or}
use Rattle.def_wording.specs.ShapeTexts.{target_reason, arguments_reason, call_step_reason}
use Rattle.tn_refusal.specs.ShapeReasons.{called_reason_of}
use Rattle.tn_term.specs.Views.{tree_of}
use Rattle.tn_refusal.proofs.ShapeReasons.{of_four, counted, no_called, or_seen, or_of_three}
use Rattle.tn_refusal.proofs.step_reasons.call_reason.Goals as goal

pub returns-then-fields-ne4 : goal.returns-then-fields-ne4
returns-then-fields-ne4 g c =
    let called = called_reason_of c.args.may_be_local in
    counted (call_step_reason c.args.shape.now called) (λ r. r) c.args.shape.now 4 (no_called c.args.shape.now called) c.args.fields.now c.if-fields-ne4.true

pub returns : goal.returns
returns g c =
    let called = called_reason_of c.args.may_be_local in
    or_seen c.or.result c.arguments_reason.result c.or-2.result c.or-2.ensures (or_seen c.target_reason.result c.called_reason.result c.or.result c.or.ensures c.target_reason.ensures c.called_reason.ensures) c.arguments_reason.ensures
    ∙ or_of_three (target_reason (tree_of c.index-fields-1.result)) (called (tree_of c.index-fields-2.result)) (arguments_reason (tree_of c.index-fields-3.result))
    ∙ of_four (call_step_reason c.args.shape.now called) (λ v f a. option_or (target_reason v) (option_or (called f) (arguments_reason a))) (λ t v f a. refl) c.args.fields.now c.index-fields-1.result c.index-fields-2.result c.index-fields-3.result c.if-fields-ne4.false
    c.index-fields-1.is c.index-fields-2.is c.index-fields-3.is
