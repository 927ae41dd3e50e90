use Rattle.std.proofs.Common.{sym, ◌∙◌, ◌+◌, drop}
use Rattle.tn_spec.specs.Views.{expr_seen, exprs_seen}
use Rattle.tn_compile.proofs.Steps.{exprs_here}
use Rattle.tn_compile.proofs.FoldedParts.{constant-next, not-constant-next}
use Rattle.tn_compile.proofs.folds.are_constants.Goals as goal

pub returns-then-not-is_constant : goal.returns-then-not-is_constant
returns-then-not-is_constant g c =
    let es = c.args.exprs.now in
    let i = c.loop-expr.expr-index in
    not-constant-next (exprs_seen (drop i es)) (exprs_seen (drop (i + 1) es)) (expr_seen c.expr-item.result) _ (exprs_here es i c.expr-item.result c.loop-expr-test.true c.expr-item.is) (sym c.is_constant.ensures ∙ c.if-not-is_constant.true) c.loop-expr.invariant

pub loop-expr-preserved : goal.loop-expr-preserved
loop-expr-preserved g c =
    let es = c.args.exprs.now in
    let i = c.loop-expr.expr-index in
    constant-next (exprs_seen (drop i es)) (exprs_seen (drop (i + 1) es)) (expr_seen c.expr-item.result) _ (exprs_here es i c.expr-item.result c.loop-expr-test.true c.expr-item.is) (sym c.is_constant.ensures ∙ c.if-not-is_constant.false) c.loop-expr.invariant
