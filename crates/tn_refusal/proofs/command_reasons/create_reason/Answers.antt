use Rattle.std.proofs.Common.{◌∙◌, codes, refl}
use Rattle.std.specs.Option.{option_or}
use Rattle.def_wording.specs.ShapeTexts.{name_reason, last_reason, create_reason}
use Rattle.tn_term.specs.Views.{tree_of}
use Rattle.tn_refusal.proofs.ShapeReasons.{of_four, counted, no_create, or_seen, or_of_three}
use Rattle.tn_refusal.proofs.command_reasons.create_reason.Goals as goal

pub returns-then-fields-ne4 : goal.returns-then-fields-ne4
returns-then-fields-ne4 g c = counted create_reason (λ r. r) (codes "{session_create,S,T,[]}") 4 no_create c.args.fields.now c.if-fields-ne4.true

pub returns : goal.returns
returns g c =
    or_seen c.or.result c.name_reason-2.result c.or-2.result c.or-2.ensures (or_seen c.name_reason.result c.last_reason.result c.or.result c.or.ensures c.name_reason.ensures c.last_reason.ensures) c.name_reason-2.ensures
    ∙ or_of_three (name_reason (codes "S") (tree_of c.index-fields-1.result)) (last_reason (tree_of c.index-fields-3.result)) (name_reason (codes "T") (tree_of c.index-fields-2.result))
    ∙ of_four create_reason (λ s t o. option_or (name_reason (codes "S") s) (option_or (last_reason o) (name_reason (codes "T") t))) (λ a s t o. refl) c.args.fields.now c.index-fields-1.result c.index-fields-2.result c.index-fields-3.result
    c.if-fields-ne4.false c.index-fields-1.is c.index-fields-2.is c.index-fields-3.is
