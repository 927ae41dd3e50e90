use Rattle.std.proofs.Common.{◌∙◌, ◌+◌, sym, ap, arith, drop}
use Rattle.tn_head.specs.Views.{bindings_seen}
use Rattle.tn_spec.specs.Views.{dialect_of, expr_seen, exprs_seen}
use Rattle.tn_action.specs.Steps.{effect_list_seen, evaluation_seen}
use Rattle.tn_action.specs.Views.{context_seen}
use Rattle.tn_action.proofs.Steps.{exprs_here, body_goes_on, body_faults}
use Rattle.tn_action.proofs.clauses.body_effects.Goals as goal

pub loop-i-preserved : goal.loop-i-preserved
loop-i-preserved g c =
    let s = c.args.scene.now in
    let es = c.args.body.now.items in
    let size = c.len-i-end.ensures ∙ c.args.body.now.ok.0 in
    let here = exprs_here es c.loop-i.i c.index.result.now (omega (arith, size)) c.index.ensures in
    let found = ap (λ v. evaluation_seen v c.value.new.effects) (sym c.in-Some.is) ∙ c.in_ok-value.ensures in
    body_goes_on (dialect_of s.dialect) (bindings_seen s.bindings.now) (context_seen s.context.now) _ (expr_seen c.index.result.now) (exprs_seen (drop (c.loop-i.i + 1) es)) (effect_list_seen c.loop-i.effects) (effect_list_seen c.value.new.effects) here _ _ found c.loop-i.invariant

pub returns-in-None : goal.returns-in-None
returns-in-None g c =
    let s = c.args.scene.now in
    let es = c.args.body.now.items in
    let size = c.len-i-end.ensures ∙ c.args.body.now.ok.0 in
    let here = exprs_here es c.loop-i.i c.index.result.now (omega (arith, size)) c.index.ensures in
    let found = ap (λ v. evaluation_seen v c.value.new.effects) (sym c.in-None.is) ∙ c.in_ok-value.ensures in
    body_faults (dialect_of s.dialect) (bindings_seen s.bindings.now) (context_seen s.context.now) _ (expr_seen c.index.result.now) (exprs_seen (drop (c.loop-i.i + 1) es)) (effect_list_seen c.loop-i.effects) (effect_list_seen c.value.new.effects) here _ found c.loop-i.invariant
