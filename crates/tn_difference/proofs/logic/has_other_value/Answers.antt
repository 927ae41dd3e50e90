use Rattle.std.proofs.Common.{◌≡◌, ◌∙◌, ◌+◌, ◌||◌, not, drop, sym, ap, arith}
use Rattle.std.specs.Option.{option_map}
use Rattle.def_spec.specs.Expressions.{comes_to, or_fault}
use Rattle.def_explain.specs.Logic.{on_value, one_is_no_boolean}
use Rattle.tn_guard.specs.Views.{value_seen}
use Rattle.tn_spec.specs.Views.{expr_seen, exprs_seen}
use Rattle.tn_action.specs.EvalContexts.{all_in, evaluation_in}
use Rattle.tn_action.specs.Steps.{effect_list_seen}
use Rattle.tn_action.proofs.Steps.{exprs_here}
use Rattle.tn_difference.proofs.LogicSteps.{more_on, evaluated_on, values_go_on}
use Rattle.tn_difference.proofs.logic.has_other_value.Goals as goal

pub returns-in-None-clause-effects : goal.returns-in-None-clause-effects
returns-in-None-clause-effects g c =
    more_on c.args.effects.now c.loop-i.effects c.value.new.effects c.loop-i.invariant.effects
    (evaluated_on c.args.scene.now (expr_seen c.index.result.now) c.in_ok-part.field-0 c.loop-i.effects c.value.new.effects c.in_ok-part.ensures)

pub loop-i-preserved : goal.loop-i-preserved
loop-i-preserved g c =
    let s = c.args.scene.now in
    let es = c.args.exprs.now.items in
    let size = c.len-i-end.ensures ∙ c.args.exprs.now.ok.0 in
    let e = c.index.result.now in
    let old = effect_list_seen c.loop-i.effects in
    let new = effect_list_seen c.value.new.effects in
    let rest = exprs_seen (drop (c.loop-i.i + 1) es) in
    let t = value_seen c.in-Some.part in
    let here = exprs_here es c.loop-i.i e (omega (arith, size)) c.index.ensures in
    let is : comes_to t new ≡ evaluation_in s (expr_seen e) old = sym (ap (λ v. or_fault (option_map value_seen v) new) c.in-Some.is) ∙ c.in_ok-part.ensures in
    let found = c.is_other-found.ensures ∙ ap (λ b. c.loop-i.found || not b) c.is_boolean.ensures in
    record {
      answer = ap (λ f. on_value (all_in s rest new) (λ ts y. f || one_is_no_boolean ts)) found ∙ values_go_on s _ (expr_seen e) rest old here c.loop-i.found t new _ is c.loop-i.invariant.answer;
      effects = more_on c.args.effects.now c.loop-i.effects c.value.new.effects c.loop-i.invariant.effects
          (evaluated_on s (expr_seen e) c.in_ok-part.field-0 c.loop-i.effects c.value.new.effects c.in_ok-part.ensures);
    }
