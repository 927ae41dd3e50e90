use Rattle.std.proofs.Common.{◌∙◌, ◌+◌, ◌&&◌, sym, ap, arith, drop}
use Rattle.tn_spec.specs.Views.{exprs_seen}
use Rattle.tn_action.proofs.Steps.{exprs_here, exprs_past}
use Rattle.tn_running_node.specs.FiringClauses.{all_hold_in}
use Rattle.tn_running_node.proofs.firing_bindings.all_hold.Goals as goal

pub returns-then-not-branch : goal.returns-then-not-branch
returns-then-not-branch g c =
    let s = c.args.scene.now in
    let es = c.args.conditions.now.items in
    let i = c.loop-i.i in
    let size = c.len-i-end.ensures ∙ c.args.conditions.now.ok.0 in
    let here = exprs_here es i c.index.result.now (omega (arith, size)) c.index.ensures in
    ap (λ q. q && all_hold_in s (exprs_seen (drop (i + 1) es))) (sym c.if-not-branch.true ∙ c.in_ok-holds.ensures) ∙ sym (ap (all_hold_in s) here) ∙ c.loop-i.invariant

pub loop-i-preserved : goal.loop-i-preserved
loop-i-preserved g c =
    let s = c.args.scene.now in
    let es = c.args.conditions.now.items in
    let i = c.loop-i.i in
    let size = c.len-i-end.ensures ∙ c.args.conditions.now.ok.0 in
    let here = exprs_here es i c.index.result.now (omega (arith, size)) c.index.ensures in
    ap (λ q. q && all_hold_in s (exprs_seen (drop (i + 1) es))) (sym c.if-not-branch.false ∙ c.in_ok-holds.ensures) ∙ sym (ap (all_hold_in s) here) ∙ c.loop-i.invariant

pub returns : goal.returns
returns g c =
    let s = c.args.scene.now in
    let es = c.args.conditions.now.items in
    let size = c.len-i-end.ensures ∙ c.args.conditions.now.ok.0 in
    sym (ap (all_hold_in s) (exprs_past es c.loop-i.i (omega (arith, size, c.loop-i-test.false)))) ∙ c.loop-i.invariant
