use Rattle.std.proofs.Common.{◌∙◌, ◌+◌, ◌∷◌, [], sym, ap, arith, map, drop}
use Rattle.std.proofs.lemmas.List.{map-append}
use Rattle.def_term.specs.Tree.{tuple, list, of_elements}
use Rattle.def_spec.specs.Expressions.{then_on, comes_to}
use Rattle.tn_guard.specs.Views.{value_seen}
use Rattle.tn_spec.specs.Views.{expr_seen, exprs_seen}
use Rattle.tn_spec.proofs.Views.{expr_seen_tuple, expr_seen_list, expr_seen_call, expr_seen_and_also, expr_seen_or_else, expr_seen_perform}
use Rattle.tn_action.specs.EvalContexts.{evaluation_in}
use Rattle.tn_action.specs.Steps.{effect_list_seen, evaluation_seen, several_seen, tuple_seen, value_list_seen}
use Rattle.tn_action.proofs.Steps.{exprs_here, exprs_past, comes_as, valued_as, mapped, all_go_on, all_fault, all_done, while_goes_on, while_stops, while_faults, while_done, until_goes_on, until_stops, until_faults, until_done}
use Rattle.tn_action.proofs.values.+value.Goals as goal

pub value-returns-in-Tuple : goal.value-returns-in-Tuple
value-returns-in-Tuple g t c =
    let seen = ap expr_seen c.in-Tuple.is ∙ expr_seen_tuple c.in-Tuple.exprs in
    comes_as c.tuple_value.result _ _ _ (sym (ap (λ e. evaluation_in c.args.scene.now e (effect_list_seen c.args.effects.now)) seen)) c.tuple_value.ensures

pub value-returns-in-List : goal.value-returns-in-List
value-returns-in-List g t c =
    let seen = ap expr_seen c.in-List.is ∙ expr_seen_list c.in-List.exprs in
    comes_as c.list_value.result _ _ _ (sym (ap (λ e. evaluation_in c.args.scene.now e (effect_list_seen c.args.effects.now)) seen)) c.list_value.ensures

pub value-returns-in-Call : goal.value-returns-in-Call
value-returns-in-Call g t c =
    let seen = ap expr_seen c.in-Call.is ∙ expr_seen_call c.in-Call.func c.in-Call.exprs in
    comes_as c.call_value.result _ _ _ (sym (ap (λ e. evaluation_in c.args.scene.now e (effect_list_seen c.args.effects.now)) seen)) c.call_value.ensures

pub value-returns-in-AndAlso : goal.value-returns-in-AndAlso
value-returns-in-AndAlso g t c =
    let seen = ap expr_seen c.in-AndAlso.is ∙ expr_seen_and_also c.in-AndAlso.exprs in
    comes_as c.all_in_turn.result _ _ _ (sym (ap (λ e. evaluation_in c.args.scene.now e (effect_list_seen c.args.effects.now)) seen)) c.all_in_turn.ensures

pub value-returns-in-OrElse : goal.value-returns-in-OrElse
value-returns-in-OrElse g t c =
    let seen = ap expr_seen c.in-OrElse.is ∙ expr_seen_or_else c.in-OrElse.exprs in
    comes_as c.one_in_turn.result _ _ _ (sym (ap (λ e. evaluation_in c.args.scene.now e (effect_list_seen c.args.effects.now)) seen)) c.one_in_turn.ensures

pub value-returns-in-Perform : goal.value-returns-in-Perform
value-returns-in-Perform g t c =
    let seen = ap expr_seen c.in-Perform.is ∙ expr_seen_perform c.in-Perform.action c.in-Perform.exprs in
    comes_as c.action_value.result _ _ _ (sym (ap (λ e. evaluation_in c.args.scene.now e (effect_list_seen c.args.effects.now)) seen)) c.action_value.ensures

pub tuple_value-returns : goal.tuple_value-returns
tuple_value-returns g t c =
    let several = several_seen c.in_ok-parts.parts in
    valued_as c.tuple_of.result _ (tuple_seen c.in_ok-parts.parts) _
    (mapped several (λ ts. tuple (of_elements ts)) _ ∙ ap (λ r. then_on r (λ ts y. comes_to (tuple (of_elements ts)) y)) c.in_ok-parts.ensures) c.tuple_of.ensures

pub list_value-returns : goal.list_value-returns
list_value-returns g t c =
    let several = several_seen c.in_ok-parts.parts in
    valued_as c.list_of.result _ (value_list_seen c.in_ok-parts.parts) _
    (mapped several (λ ts. list (of_elements ts)) _ ∙ ap (λ r. then_on r (λ ts y. comes_to (list (of_elements ts)) y)) c.in_ok-parts.ensures) c.list_of.ensures

pub all_in_turn-loop-i-preserved : goal.all_in_turn-loop-i-preserved
all_in_turn-loop-i-preserved g t c =
    let s = c.args.scene.now in
    let es = c.args.exprs.now.items in
    let size = c.len-i-end.ensures ∙ c.args.exprs.now.ok.0 in
    let here = exprs_here es c.loop-i.i c.index.result.now (omega (arith, size)) c.index.ensures in
    let rest = exprs_seen (drop (c.loop-i.i + 1) es) in
    let found = ap (λ v. evaluation_seen v c.value.new.effects) (sym c.in-Some.is) ∙ c.in_ok-part.ensures in
    while_goes_on s _ _ rest _ _ here (value_seen c.in-Some.part) _ found (sym c.is_true.ensures ∙ c.if-not-is_true.false) c.loop-i.invariant

pub all_in_turn-returns-then-not-is_true : goal.all_in_turn-returns-then-not-is_true
all_in_turn-returns-then-not-is_true g t c =
    let s = c.args.scene.now in
    let es = c.args.exprs.now.items in
    let size = c.len-i-end.ensures ∙ c.args.exprs.now.ok.0 in
    let here = exprs_here es c.loop-i.i c.index.result.now (omega (arith, size)) c.index.ensures in
    let rest = exprs_seen (drop (c.loop-i.i + 1) es) in
    let found = ap (λ v. evaluation_seen v c.value.new.effects) (sym c.in-Some.is) ∙ c.in_ok-part.ensures in
    ap (λ u. comes_to u (effect_list_seen c.value.new.effects)) c.truth.ensures
    ∙ while_stops s _ _ rest _ _ here (value_seen c.in-Some.part) _ found (sym c.is_true.ensures ∙ c.if-not-is_true.true) c.loop-i.invariant

pub all_in_turn-returns-in-None : goal.all_in_turn-returns-in-None
all_in_turn-returns-in-None g t c =
    let s = c.args.scene.now in
    let es = c.args.exprs.now.items in
    let size = c.len-i-end.ensures ∙ c.args.exprs.now.ok.0 in
    let here = exprs_here es c.loop-i.i c.index.result.now (omega (arith, size)) c.index.ensures in
    let rest = exprs_seen (drop (c.loop-i.i + 1) es) in
    let found = ap (λ v. evaluation_seen v c.value.new.effects) (sym c.in-None.is) ∙ c.in_ok-part.ensures in
    while_faults s _ _ rest _ _ here _ found c.loop-i.invariant

pub all_in_turn-returns : goal.all_in_turn-returns
all_in_turn-returns g t c =
    let s = c.args.scene.now in
    let es = c.args.exprs.now.items in
    let size = c.len-i-end.ensures ∙ c.args.exprs.now.ok.0 in
    ap (λ u. comes_to u (effect_list_seen c.loop-i.effects)) c.truth-2.ensures
    ∙ while_done s _ _ (exprs_past es c.loop-i.i (omega (arith, size))) _ c.loop-i.invariant

pub one_in_turn-loop-i-preserved : goal.one_in_turn-loop-i-preserved
one_in_turn-loop-i-preserved g t c =
    let s = c.args.scene.now in
    let es = c.args.exprs.now.items in
    let size = c.len-i-end.ensures ∙ c.args.exprs.now.ok.0 in
    let here = exprs_here es c.loop-i.i c.index.result.now (omega (arith, size)) c.index.ensures in
    let rest = exprs_seen (drop (c.loop-i.i + 1) es) in
    let found = ap (λ v. evaluation_seen v c.value.new.effects) (sym c.in-Some.is) ∙ c.in_ok-part.ensures in
    until_goes_on s _ _ rest _ _ here (value_seen c.in-Some.part) _ found (sym c.is_true.ensures ∙ c.if-is_true.false) c.loop-i.invariant

pub one_in_turn-returns-then-is_true : goal.one_in_turn-returns-then-is_true
one_in_turn-returns-then-is_true g t c =
    let s = c.args.scene.now in
    let es = c.args.exprs.now.items in
    let size = c.len-i-end.ensures ∙ c.args.exprs.now.ok.0 in
    let here = exprs_here es c.loop-i.i c.index.result.now (omega (arith, size)) c.index.ensures in
    let rest = exprs_seen (drop (c.loop-i.i + 1) es) in
    let found = ap (λ v. evaluation_seen v c.value.new.effects) (sym c.in-Some.is) ∙ c.in_ok-part.ensures in
    ap (λ u. comes_to u (effect_list_seen c.value.new.effects)) c.truth.ensures
    ∙ until_stops s _ _ rest _ _ here (value_seen c.in-Some.part) _ found (sym c.is_true.ensures ∙ c.if-is_true.true) c.loop-i.invariant

pub one_in_turn-returns-in-None : goal.one_in_turn-returns-in-None
one_in_turn-returns-in-None g t c =
    let s = c.args.scene.now in
    let es = c.args.exprs.now.items in
    let size = c.len-i-end.ensures ∙ c.args.exprs.now.ok.0 in
    let here = exprs_here es c.loop-i.i c.index.result.now (omega (arith, size)) c.index.ensures in
    let rest = exprs_seen (drop (c.loop-i.i + 1) es) in
    let found = ap (λ v. evaluation_seen v c.value.new.effects) (sym c.in-None.is) ∙ c.in_ok-part.ensures in
    until_faults s _ _ rest _ _ here _ found c.loop-i.invariant

pub one_in_turn-returns : goal.one_in_turn-returns
one_in_turn-returns g t c =
    let s = c.args.scene.now in
    let es = c.args.exprs.now.items in
    let size = c.len-i-end.ensures ∙ c.args.exprs.now.ok.0 in
    ap (λ u. comes_to u (effect_list_seen c.loop-i.effects)) c.truth-2.ensures
    ∙ until_done s _ _ (exprs_past es c.loop-i.i (omega (arith, size))) _ c.loop-i.invariant

pub values-loop-i-preserved : goal.values-loop-i-preserved
values-loop-i-preserved g t c =
    let s = c.args.scene.now in
    let es = c.args.exprs.now.items in
    let size = c.len-i-end.ensures ∙ c.args.exprs.now.ok.0 in
    let here = exprs_here es c.loop-i.i c.index.result.now (omega (arith, size)) c.index.ensures in
    let rest = exprs_seen (drop (c.loop-i.i + 1) es) in
    let found = ap (λ v. evaluation_seen v c.value.new.effects) (sym c.in-Some.is) ∙ c.in_ok-part.ensures in
    let more_of = ap (map value_seen) c.in_ok-push-in-Some.ensures.ok ∙ map-append value_seen c.loop-i.parts.items (c.in-Some.part ∷ []) in
    all_go_on s _ _ rest _ _ here (map value_seen c.loop-i.parts.items) _ (value_seen c.in-Some.part) _ found more_of c.loop-i.invariant

pub values-returns-in-None : goal.values-returns-in-None
values-returns-in-None g t c =
    let s = c.args.scene.now in
    let es = c.args.exprs.now.items in
    let size = c.len-i-end.ensures ∙ c.args.exprs.now.ok.0 in
    let here = exprs_here es c.loop-i.i c.index.result.now (omega (arith, size)) c.index.ensures in
    let rest = exprs_seen (drop (c.loop-i.i + 1) es) in
    let found = ap (λ v. evaluation_seen v c.value.new.effects) (sym c.in-None.is) ∙ c.in_ok-part.ensures in
    all_fault s _ _ rest _ _ here (map value_seen c.loop-i.parts.items) _ found c.loop-i.invariant

pub values-returns : goal.values-returns
values-returns g t c =
    let s = c.args.scene.now in
    let es = c.args.exprs.now.items in
    let size = c.len-i-end.ensures ∙ c.args.exprs.now.ok.0 in
    all_done s _ _ (exprs_past es c.loop-i.i (omega (arith, size))) (map value_seen c.loop-i.parts.items) _ c.loop-i.invariant
