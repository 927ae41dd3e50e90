use Rattle.std.proofs.Common.{◌∙◌, codes, refl}
use Rattle.std.specs.Option.{option_or}
use Rattle.def_wording.specs.ShapeTexts.{name_reason, last_reason, specified_reason}
use Rattle.tn_refusal.proofs.ShapeReasons.{of_four_ends, counted, no_specified, or_seen}
use Rattle.tn_refusal.proofs.command_reasons.specified_reason.Goals as goal

pub returns-then-fields-ne4 : goal.returns-then-fields-ne4
returns-then-fields-ne4 g c = counted (specified_reason c.args.shape.now) (λ r. r) c.args.shape.now 4 (no_specified c.args.shape.now) c.args.fields.now c.if-fields-ne4.true

pub returns : goal.returns
returns g c =
    or_seen c.name_reason.result c.last_reason.result c.or.result c.or.ensures c.name_reason.ensures c.last_reason.ensures
    ∙ of_four_ends (specified_reason c.args.shape.now) (λ s o. option_or (name_reason (codes "S") s) (last_reason o)) (λ t s m o. refl) c.args.fields.now c.index-fields-1.result c.index-fields-3.result c.if-fields-ne4.false c.index-fields-1.is c.index-fields-3.is
