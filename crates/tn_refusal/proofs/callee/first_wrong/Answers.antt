use Rattle.std.proofs.Common.{◌∙◌, ◌+◌, [], length, map, take, Some, sym, ap, arith}
use Rattle.std.specs.Option.{option_map}
use Rattle.def_wording.specs.RuleTexts.{step_name}
use Rattle.tn_program.specs.Faults.{rule_of}
use Rattle.tn_script.specs.Views.{form_of, step_of}
use Rattle.tn_refusal.specs.RuleViews.{callee_seen}
use Rattle.tn_refusal.proofs.Firsts.{found_here, found_later, found_nowhere, passed_count}
use Rattle.tn_refusal.proofs.callee.first_wrong.Goals as goal

pub returns-in-Some : goal.returns-in-Some
returns-in-Some g c =
    let xs = c.args.steps.now in
    let i = c.loop-i.i in
    found_here (step_name (rule_of c.args.rule) (map form_of c.args.forms.now) c.args.home.now) step_of [] xs i c.index-steps-i.result _ (omega arith) c.index-steps-i.is
    (ap (option_map (λ f. (f, length (map step_of (take i xs)) + 1))) (sym c.in-Some.ensures) ∙ ap (λ n. Some (callee_seen c.in-Some.callee, n + 1)) (passed_count step_of xs i (omega arith))) c.loop-i.invariant

pub loop-i-preserved : goal.loop-i-preserved
loop-i-preserved g c =
    let xs = c.args.steps.now in
    let i = c.loop-i.i in
    found_later (step_name (rule_of c.args.rule) (map form_of c.args.forms.now) c.args.home.now) step_of [] xs i c.index-steps-i.result (omega arith) c.index-steps-i.is
    (ap (option_map (λ f. (f, length (map step_of (take i xs)) + 1))) (sym c.in-None.ensures)) c.loop-i.invariant

pub returns : goal.returns
returns g c = found_nowhere (step_name (rule_of c.args.rule) (map form_of c.args.forms.now) c.args.home.now) step_of [] c.args.steps.now c.loop-i.i (omega arith) c.loop-i.invariant
