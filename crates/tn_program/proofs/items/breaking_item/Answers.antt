use Rattle.std.proofs.Common.{◌≡◌, ◌-◌, map, ap, ◌∙◌, arith}
use Rattle.tn_script.specs.Views.{form_of}
use Rattle.tn_program.specs.Faults.{rule_of}
use Rattle.tn_program.specs.Items.{item_of_fault}
use Rattle.tn_program.proofs.Positions.{if_ok, of_form}
use Rattle.tn_program.proofs.items.breaking_item.Goals as goal

pub returns-then-index-forms : goal.returns-then-index-forms
returns-then-index-forms g c =
    let before : c.saturating_sub-index.result ≡ c.in-Some.number - 1 = omega arith in
    if_ok _ _ c.item_of_form.result (λ o e. e ∙ of_form (form_of {A = g.row.A.Denot}) c.args.forms.now c.in-Some.number c.saturating_sub-index.result c.index-forms-index.result (rule_of c.in-Some.rule) before c.if-index-forms.true c.index-forms-index.is
    ∙ ap (item_of_fault (map (form_of {A = g.row.A.Denot}) c.args.forms.now)) c.in-Some.ensures) c.item_of_form.ensures
