use Rattle.std.proofs.Common.{◌∙◌, codes, refl}
use Rattle.def_wording.specs.ShapeTexts.{target_reason, receive_step_reason}
use Rattle.tn_refusal.proofs.ShapeReasons.{of_two, counted, no_receive}
use Rattle.tn_refusal.proofs.step_reasons.receive_reason.Goals as goal

pub returns-then-fields-eq2 : goal.returns-then-fields-eq2
returns-then-fields-eq2 g c = c.target_reason.ensures ∙ of_two receive_step_reason target_reason (λ x y. refl) c.args.fields.now c.index-fields-1.result c.if-fields-eq2.true c.index-fields-1.is

pub returns-else-fields-eq2 : goal.returns-else-fields-eq2
returns-else-fields-eq2 g c = counted receive_step_reason (λ r. r) (codes "{'receive',V}") 2 no_receive c.args.fields.now c.if-fields-eq2.false
