use Rattle.std.proofs.Common.{◌∙◌, ◌+◌, [], length, map, take, Some, sym, ap, arith}
use Rattle.std.specs.Option.{option_map}
use Rattle.tn_script.specs.Views.{step_of}
use Rattle.tn_refusal.specs.RuleViews.{free_at_step}
use Rattle.tn_refusal.proofs.Firsts.{found_here, found_later, found_nowhere, passed_count}
use Rattle.tn_refusal.proofs.variables.first_in_steps.Goals as goal

pub returns-in-Some : goal.returns-in-Some
returns-in-Some g c =
    let xs = c.args.steps.now in
    let i = c.loop-i.i in
    found_here (free_at_step c.args.params.now) step_of [] xs i c.index-steps-i.result _ (omega arith) c.index-steps-i.is
    (ap (option_map (λ v. (v, length (map step_of (take i xs)) + 1))) (sym c.in-Some.ensures) ∙ ap (λ n. Some (c.in-Some.variable.now, n + 1)) (passed_count step_of xs i (omega arith))) c.loop-i.invariant

pub loop-i-preserved : goal.loop-i-preserved
loop-i-preserved g c =
    let xs = c.args.steps.now in
    let i = c.loop-i.i in
    found_later (free_at_step c.args.params.now) step_of [] xs i c.index-steps-i.result (omega arith) c.index-steps-i.is
    (ap (option_map (λ v. (v, length (map step_of (take i xs)) + 1))) (sym c.in-None.ensures)) c.loop-i.invariant

pub returns : goal.returns
returns g c = found_nowhere (free_at_step c.args.params.now) step_of [] c.args.steps.now c.loop-i.i (omega arith) c.loop-i.invariant
