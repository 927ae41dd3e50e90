use Rattle.std.proofs.Common.{Some, ◌∙◌, ◌+◌, suc, sym, ap, refl, arith, drop}
use Rattle.std.specs.Option.{option_map}
use Rattle.def_explain.specs.Reasons.{bound_within, untrue_in}
use Rattle.tn_guard.specs.Views.{value_seen}
use Rattle.tn_head.specs.Views.{bindings_seen}
use Rattle.tn_spec.specs.Views.{dialect_of, expr_seen, exprs_seen}
use Rattle.tn_action.specs.Views.{context_seen}
use Rattle.tn_action.proofs.Steps.{condition_value, exprs_here}
use Rattle.tn_verdict.specs.Views.{part_at}
use Rattle.tn_verdict.proofs.Steps.{untrue-has-value, untrue-faults, untrue-goes-on}
use Rattle.tn_verdict.proofs.clauses.first_untrue.Goals as goal

pub returns-then-not-is_true : goal.returns-then-not-is_true
returns-then-not-is_true g c =
    let d = dialect_of c.args.dialect in
    let b = bindings_seen c.args.bindings.now in
    let x = context_seen c.args.context.now in
    let es = c.args.conditions.now.items in
    let size = c.len-index-end.ensures ∙ c.args.conditions.now.ok.0 in
    let here = exprs_here es c.loop-index.index c.index-condition.result.now (omega (arith, size)) c.index-condition.ensures in
    ap Some c.value_reason.ensures
    ∙ untrue-has-value d b x c.loop-index.index _ (exprs_seen (drop (c.loop-index.index + 1) es)) (expr_seen c.index-condition.result.now) (value_seen c.in-Some.other) _ here
    (condition_value d b x (expr_seen c.index-condition.result.now) _ _ _ c.in_ok-other.ensures ∙ ap (option_map value_seen) c.in-Some.is)
    (sym c.is_true.ensures ∙ c.if-not-is_true.true) c.loop-index.invariant

pub returns-in-None : goal.returns-in-None
returns-in-None g c =
    let d = dialect_of c.args.dialect in
    let b = bindings_seen c.args.bindings.now in
    let x = context_seen c.args.context.now in
    let es = c.args.conditions.now.items in
    let size = c.len-index-end.ensures ∙ c.args.conditions.now.ok.0 in
    let here = exprs_here es c.loop-index.index c.index-condition.result.now (omega (arith, size)) c.index-condition.ensures in
    c.condition_fault.ensures (bound_within (expr_seen c.index-condition.result.now) b) (untrue_in d b x (suc c.loop-index.index) (exprs_seen (drop (c.loop-index.index + 1) es)))
    ∙ untrue-faults d b x c.loop-index.index _ (exprs_seen (drop (c.loop-index.index + 1) es)) (expr_seen c.index-condition.result.now) (part_at c.in_ok-fault_in-in-None.field-0) _ here
    (condition_value d b x (expr_seen c.index-condition.result.now) _ _ _ c.in_ok-other.ensures ∙ ap (option_map value_seen) c.in-None.is)
    (sym c.in_ok-fault_in-in-None.ensures) c.loop-index.invariant

pub loop-index-preserved : goal.loop-index-preserved
loop-index-preserved g c =
    let d = dialect_of c.args.dialect in
    let b = bindings_seen c.args.bindings.now in
    let x = context_seen c.args.context.now in
    let es = c.args.conditions.now.items in
    let size = c.len-index-end.ensures ∙ c.args.conditions.now.ok.0 in
    let here = exprs_here es c.loop-index.index c.index-condition.result.now (omega (arith, size)) c.index-condition.ensures in
    untrue-goes-on d b x c.loop-index.index (c.loop-index.index + 1) _ (exprs_seen (drop (c.loop-index.index + 1) es)) (expr_seen c.index-condition.result.now) (value_seen c.in-Some.other) _ refl here
    (condition_value d b x (expr_seen c.index-condition.result.now) _ _ _ c.in_ok-other.ensures ∙ ap (option_map value_seen) c.in-Some.is)
    (sym c.is_true.ensures ∙ c.if-not-is_true.false) c.loop-index.invariant
