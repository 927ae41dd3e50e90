use Rattle.std.proofs.Common.{◌∙◌, false, if◌then◌else◌, sym, ap}
use Rattle.tn_refusal.proofs.ShapeReasons.{two_names, no_two_names, first_no_name}
use Rattle.tn_refusal.proofs.step_reasons.are_two_names.Goals as goal

pub returns-then-fields-ne2 : goal.returns-then-fields-ne2
returns-then-fields-ne2 g c = no_two_names c.args.fields.now c.if-fields-ne2.true

pub returns-then-not-is_name : goal.returns-then-not-is_name
returns-then-not-is_name g c = first_no_name c.args.fields.now c.index-fields-0.result c.is_name.result c.if-fields-ne2.false c.index-fields-0.is c.is_name.ensures c.if-not-is_name.true

pub returns : goal.returns
returns g c =
    ap (λ z. if z then c.is_name-2.result else false) (sym c.if-not-is_name.false)
    ∙ two_names c.args.fields.now c.index-fields-0.result c.index-fields-1.result c.is_name.result c.is_name-2.result c.if-fields-ne2.false c.index-fields-0.is c.index-fields-1.is c.is_name.ensures c.is_name-2.ensures
