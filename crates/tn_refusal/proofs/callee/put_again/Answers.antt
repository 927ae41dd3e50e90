use Rattle.std.proofs.Common.{◌∙◌, map, ap}
use Rattle.std.specs.Option.{option_map}
use Rattle.def_wording.specs.RuleTexts.{declared_too, again_reason, rule_reason_text, rule_reasons_text}
use Rattle.tn_script.specs.Views.{form_of}
use Rattle.tn_refusal.specs.RuleViews.{callee_seen}
use Rattle.tn_refusal.proofs.Writes.{read_as}
use Rattle.tn_refusal.proofs.callee.put_again.Goals as goal

pub returns-in-Some : goal.returns-in-Some
returns-in-Some g c =
    let f = callee_seen c.declared_by-callee.result in
    read_as c.put_declared_too.result c.args.out.now.items (rule_reason_text (declared_too f c.in-Some.form)) _ c.put_declared_too.new.out.items
    (ap (λ o. rule_reasons_text (option_map (declared_too f) o)) c.in-Some.ensures ∙ ap (λ h. rule_reasons_text (again_reason h (map form_of c.args.earlier.now))) c.declared_by-callee.ensures)
    c.put_declared_too.ensures
