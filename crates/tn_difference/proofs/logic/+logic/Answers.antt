use Rattle.std.proofs.Common.{◌≡◌, ◌∙◌, ◌+◌, true, false, not, drop, take, sym, ap, arith}
use Rattle.std.specs.Bool.{beq}
use Rattle.std.specs.Option.{option_map}
use Rattle.def_spec.specs.Expressions.{comes_to, faults, or_fault}
use Rattle.def_spec.specs.Functions.{boolean_test, is_true}
use Rattle.tn_guard.specs.Views.{value_seen}
use Rattle.tn_spec.specs.Views.{expr_seen, exprs_seen}
use Rattle.tn_action.specs.EvalContexts.{evaluation_in}
use Rattle.tn_action.specs.Steps.{effect_list_seen}
use Rattle.tn_action.proofs.Steps.{exprs_here}
use Rattle.tn_difference.specs.Logic.{logic_in}
use Rattle.tn_difference.proofs.LogicSteps.{same_by, more_on, same_on, same_again, evaluated_on, one_goes_on, turn_faults, turn_goes_on, turn_stops}
use Rattle.tn_difference.proofs.logic.+logic.Goals as goal

pub has_logic-returns-clause-effects : goal.has_logic-returns-clause-effects
has_logic-returns-clause-effects g t c =
    same_again c.args.effects.now c.logic_of.new.effects c.truncate.new.self c.in_ok-found.ensures.effects
    (c.truncate.ensures.items ∙ ap (λ n. take n c.logic_of.new.effects.items) (c.len-before.ensures ∙ c.args.effects.now.ok.0))

pub logic_of_one-returns-in-None-clause-effects : goal.logic_of_one-returns-in-None-clause-effects
logic_of_one-returns-in-None-clause-effects g t c =
    more_on c.args.effects.now c.has_logic.new.effects c.value.new.effects
    (same_on c.args.effects.now c.loop-i.effects c.has_logic.new.effects c.loop-i.invariant.effects c.in_ok-has_logic.ensures.effects)
    (evaluated_on c.args.scene.now (expr_seen c.index-expr.result.now) c.in_ok-value.field-0 c.has_logic.new.effects c.value.new.effects c.in_ok-value.ensures)

pub logic_of_one-loop-i-preserved : goal.logic_of_one-loop-i-preserved
logic_of_one-loop-i-preserved g t c =
    let s = c.args.scene.now in
    let es = c.args.exprs.now.items in
    let size = c.len-i-end.ensures ∙ c.args.exprs.now.ok.0 in
    let e = c.index-expr.result.now in
    let old = effect_list_seen c.loop-i.effects in
    let new = effect_list_seen c.value.new.effects in
    let rest = exprs_seen (drop (c.loop-i.i + 1) es) in
    let u = value_seen c.in-Some.field-0 in
    let here = exprs_here es c.loop-i.i e (omega (arith, size)) c.index-expr.ensures in
    let none : logic_in s (expr_seen e) old ≡ false = sym c.in_ok-has_logic.ensures.answer ∙ c.if-branch.false in
    let is : comes_to u new ≡ evaluation_in s (expr_seen e) old =
    sym (ap (λ v. or_fault (option_map value_seen v) new) c.in-Some.is) ∙ c.in_ok-value.ensures ∙ ap (evaluation_in s (expr_seen e)) c.in_ok-has_logic.ensures.effects in
    record {
      answer = one_goes_on s _ (expr_seen e) rest old here u new _ none is c.loop-i.invariant.answer;
      effects = more_on c.args.effects.now c.has_logic.new.effects c.value.new.effects
          (same_on c.args.effects.now c.loop-i.effects c.has_logic.new.effects c.loop-i.invariant.effects c.in_ok-has_logic.ensures.effects)
          (evaluated_on s (expr_seen e) c.in_ok-value.field-0 c.has_logic.new.effects c.value.new.effects c.in_ok-value.ensures);
    }

pub logic_of_turn-returns-then-is_true-goes_on-clause-effects : goal.logic_of_turn-returns-then-is_true-goes_on-clause-effects
logic_of_turn-returns-then-is_true-goes_on-clause-effects g t c =
    more_on c.args.effects.now c.has_logic.new.effects c.value.new.effects
    (same_on c.args.effects.now c.loop-i.effects c.has_logic.new.effects c.loop-i.invariant.effects c.in_ok-has_logic.ensures.effects)
    (evaluated_on c.args.scene.now (expr_seen c.index-expr.result.now) c.in_ok-part.field-0 c.has_logic.new.effects c.value.new.effects c.in_ok-part.ensures)

pub logic_of_turn-returns-then-is_true-goes_on-clause-answer : goal.logic_of_turn-returns-then-is_true-goes_on-clause-answer
logic_of_turn-returns-then-is_true-goes_on-clause-answer g t c =
    let s = c.args.scene.now in
    let es = c.args.exprs.now.items in
    let size = c.len-i-end.ensures ∙ c.args.exprs.now.ok.0 in
    let e = c.index-expr.result.now in
    let old = effect_list_seen c.loop-i.effects in
    let new = effect_list_seen c.value.new.effects in
    let rest = exprs_seen (drop (c.loop-i.i + 1) es) in
    let u = value_seen c.in-Some.part in
    let here = exprs_here es c.loop-i.i e (omega (arith, size)) c.index-expr.ensures in
    let none : logic_in s (expr_seen e) old ≡ false = sym c.in_ok-has_logic.ensures.answer ∙ c.if-branch.false in
    let is : comes_to u new ≡ evaluation_in s (expr_seen e) old =
    sym (ap (λ v. or_fault (option_map value_seen v) new) c.in-Some.is) ∙ c.in_ok-part.ensures ∙ ap (evaluation_in s (expr_seen e)) c.in_ok-has_logic.ensures.effects in
    let boolean : boolean_test u ≡ true = sym c.is_boolean.ensures ∙ c.if-not-is_boolean.false in
    let stops : not (beq (is_true u) c.args.goes_on) ≡ true = ap (λ b. not (beq b c.args.goes_on)) (sym c.is_true.ensures) ∙ c.if-is_true-goes_on.true in
    turn_stops s _ (expr_seen e) rest old here c.args.goes_on u new _ none is boolean stops c.loop-i.invariant.answer

pub logic_of_turn-returns-then-not-is_boolean-clause-effects : goal.logic_of_turn-returns-then-not-is_boolean-clause-effects
logic_of_turn-returns-then-not-is_boolean-clause-effects g t c =
    more_on c.args.effects.now c.has_logic.new.effects c.value.new.effects
    (same_on c.args.effects.now c.loop-i.effects c.has_logic.new.effects c.loop-i.invariant.effects c.in_ok-has_logic.ensures.effects)
    (evaluated_on c.args.scene.now (expr_seen c.index-expr.result.now) c.in_ok-part.field-0 c.has_logic.new.effects c.value.new.effects c.in_ok-part.ensures)

pub logic_of_turn-returns-in-None-clause-effects : goal.logic_of_turn-returns-in-None-clause-effects
logic_of_turn-returns-in-None-clause-effects g t c =
    more_on c.args.effects.now c.has_logic.new.effects c.value.new.effects
    (same_on c.args.effects.now c.loop-i.effects c.has_logic.new.effects c.loop-i.invariant.effects c.in_ok-has_logic.ensures.effects)
    (evaluated_on c.args.scene.now (expr_seen c.index-expr.result.now) c.in_ok-part.field-0 c.has_logic.new.effects c.value.new.effects c.in_ok-part.ensures)

pub logic_of_turn-returns-in-None-clause-answer : goal.logic_of_turn-returns-in-None-clause-answer
logic_of_turn-returns-in-None-clause-answer g t c =
    let s = c.args.scene.now in
    let es = c.args.exprs.now.items in
    let size = c.len-i-end.ensures ∙ c.args.exprs.now.ok.0 in
    let e = c.index-expr.result.now in
    let old = effect_list_seen c.loop-i.effects in
    let new = effect_list_seen c.value.new.effects in
    let rest = exprs_seen (drop (c.loop-i.i + 1) es) in
    let here = exprs_here es c.loop-i.i e (omega (arith, size)) c.index-expr.ensures in
    let none : logic_in s (expr_seen e) old ≡ false = sym c.in_ok-has_logic.ensures.answer ∙ c.if-branch.false in
    let is : faults new ≡ evaluation_in s (expr_seen e) old =
    sym (ap (λ v. or_fault (option_map value_seen v) new) c.in-None.is) ∙ c.in_ok-part.ensures ∙ ap (evaluation_in s (expr_seen e)) c.in_ok-has_logic.ensures.effects in
    turn_faults s _ (expr_seen e) rest old here c.args.goes_on new _ none is c.loop-i.invariant.answer

pub logic_of_turn-loop-i-preserved : goal.logic_of_turn-loop-i-preserved
logic_of_turn-loop-i-preserved g t c =
    let s = c.args.scene.now in
    let es = c.args.exprs.now.items in
    let size = c.len-i-end.ensures ∙ c.args.exprs.now.ok.0 in
    let e = c.index-expr.result.now in
    let old = effect_list_seen c.loop-i.effects in
    let new = effect_list_seen c.value.new.effects in
    let rest = exprs_seen (drop (c.loop-i.i + 1) es) in
    let u = value_seen c.in-Some.part in
    let here = exprs_here es c.loop-i.i e (omega (arith, size)) c.index-expr.ensures in
    let none : logic_in s (expr_seen e) old ≡ false = sym c.in_ok-has_logic.ensures.answer ∙ c.if-branch.false in
    let is : comes_to u new ≡ evaluation_in s (expr_seen e) old =
    sym (ap (λ v. or_fault (option_map value_seen v) new) c.in-Some.is) ∙ c.in_ok-part.ensures ∙ ap (evaluation_in s (expr_seen e)) c.in_ok-has_logic.ensures.effects in
    let boolean : boolean_test u ≡ true = sym c.is_boolean.ensures ∙ c.if-not-is_boolean.false in
    let holds : is_true u ≡ c.args.goes_on = sym c.is_true.ensures ∙ same_by c.is_true.result c.args.goes_on c.if-is_true-goes_on.false in
    record {
      answer = turn_goes_on s _ (expr_seen e) rest old here c.args.goes_on u new _ none is boolean holds c.loop-i.invariant.answer;
      effects = more_on c.args.effects.now c.has_logic.new.effects c.value.new.effects
          (same_on c.args.effects.now c.loop-i.effects c.has_logic.new.effects c.loop-i.invariant.effects c.in_ok-has_logic.ensures.effects)
          (evaluated_on s (expr_seen e) c.in_ok-part.field-0 c.has_logic.new.effects c.value.new.effects c.in_ok-part.ensures);
    }
