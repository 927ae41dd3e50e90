use Rattle.std.proofs.Common.{None, codes, refl}
use Rattle.def_wording.specs.ShapeTexts.{send_step_reason}
use Rattle.tn_refusal.proofs.ShapeReasons.{of_three, counted, no_send}
use Rattle.tn_refusal.proofs.step_reasons.send_reason.Goals as goal

pub returns-then-fields-eq3 : goal.returns-then-fields-eq3
returns-then-fields-eq3 g c = of_three send_step_reason None (λ x y z. refl) c.args.fields.now c.if-fields-eq3.true

pub returns-else-fields-eq3 : goal.returns-else-fields-eq3
returns-else-fields-eq3 g c = counted send_step_reason (λ r. r) (codes "{send,To,Msg}") 3 no_send c.args.fields.now c.if-fields-eq3.false
