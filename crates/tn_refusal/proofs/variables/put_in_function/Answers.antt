use Rattle.std.proofs.Common.{◌≡◌, ◌∙◌, ◌++◌, [], map, OnOk, append-nil, sym, ap, ap₂, subst}
use Rattle.std.specs.Option.{option_map}
use Rattle.def_wording.specs.Firsts.{first_with_earlier}
use Rattle.def_wording.specs.RuleTexts.{free_reason_of, rule_reasons_text}
use Rattle.tn_script.specs.Views.{function_of, step_of}
use Rattle.tn_refusal.specs.RuleViews.{free_at_step}
use Rattle.tn_refusal.proofs.variables.put_in_function.Goals as goal

pub returns-in-Some : goal.returns-in-Some
returns-in-Some g c =
    let k = function_of c.args.function.now in
    let is = c.in-Some.ensures ∙ ap₂ (λ ps ss. first_with_earlier (free_at_step ps) [] (map (step_of {A = g.row.A.Denot}) ss)) c.deref.ensures.value c.deref-2.ensures.value in
    subst (λ o. OnOk c.put_free.result (c.put_free.new.out.items ≡ c.args.out.now.items ++ rule_reasons_text (option_map (free_reason_of k) o))) is c.put_free.ensures

pub returns-in-None : goal.returns-in-None
returns-in-None g c =
    let k = function_of c.args.function.now in
    let o = c.args.out.now.items in
    let is = c.in-None.ensures ∙ ap₂ (λ ps ss. first_with_earlier (free_at_step ps) [] (map (step_of {A = g.row.A.Denot}) ss)) c.deref.ensures.value c.deref-2.ensures.value in
    sym (append-nil o) ∙ ap (λ r. o ++ rule_reasons_text (option_map (free_reason_of k) r)) is
