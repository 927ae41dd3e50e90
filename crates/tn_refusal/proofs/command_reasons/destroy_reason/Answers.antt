use Rattle.std.proofs.Common.{◌∙◌, codes, refl}
use Rattle.def_wording.specs.ShapeTexts.{name_reason, destroy_reason}
use Rattle.tn_refusal.proofs.ShapeReasons.{of_two, counted, no_destroy}
use Rattle.tn_refusal.proofs.command_reasons.destroy_reason.Goals as goal

pub returns-then-fields-eq2 : goal.returns-then-fields-eq2
returns-then-fields-eq2 g c = c.name_reason.ensures ∙ of_two destroy_reason (name_reason (codes "S")) (λ x y. refl) c.args.fields.now c.index-fields-1.result c.if-fields-eq2.true c.index-fields-1.is

pub returns-else-fields-eq2 : goal.returns-else-fields-eq2
returns-else-fields-eq2 g c = counted destroy_reason (λ r. r) (codes "{session_destroy,S}") 2 no_destroy c.args.fields.now c.if-fields-eq2.false
