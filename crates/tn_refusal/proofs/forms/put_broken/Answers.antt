use Rattle.std.proofs.Common.{take, map}
use Rattle.def_wording.specs.RuleTexts.{rule_reason, rule_reasons_text}
use Rattle.tn_program.specs.Faults.{rule_of}
use Rattle.tn_script.specs.Views.{form_of}
use Rattle.tn_refusal.proofs.Details.{read_along}
use Rattle.tn_refusal.proofs.RuleReasons.{reason_of_form}
use Rattle.tn_refusal.proofs.forms.put_broken.Goals as goal

pub returns-then-index-forms : goal.returns-then-index-forms
returns-then-index-forms g c =
    let forms = c.args.forms.now in
    let form = c.index-forms-index.result in
    let rule = rule_of c.args.rule in
    read_along c.put_rule.result c.args.out.now.items c.put_rule.new.out.items rule_reasons_text (rule_reason (map (form_of {A = g.row.A.Denot}) forms) (map (form_of {A = g.row.A.Denot}) (take c.saturating_sub-index.result forms)) (form_of form) rule) _
    (reason_of_form (form_of {A = g.row.A.Denot}) forms c.args.form c.saturating_sub-index.result form rule c.saturating_sub-index.ensures c.if-index-forms.true c.index-forms-index.is) c.put_rule.ensures
