use Rattle.std.proofs.Common.{arith}
use Rattle.std.proofs.lemmas.Result.{err_from_is_err_and}
use Rattle.tn_translation.proofs.Rows.{part_next, part_fails, part_ends}
use Rattle.tn_translation.proofs.parts.part_terms.Goals as goal

pub loop-expr-preserved : goal.loop-expr-preserved
loop-expr-preserved g c =
    part_next c.args.scope.now c.deref-expr-items.result.now c.loop-expr.expr-index _ c.expr-item.result c.loop-expr.terms c.push.new.self c.in_ok-term.term (omega arith) c.expr-item.is c.in_ok-term.ensures c.in_ok-push.ensures.items c.loop-expr.invariant

pub returns-in_err-term : goal.returns-in_err-term
returns-in_err-term g c =
    let p = err_from_is_err_and c.from_residual.result c.from_residual.ensures.1 in
    rw (p.1, p.2) (part_fails c.args.scope.now c.deref-expr-items.result.now c.loop-expr.expr-index _ _ c.expr-item.result c.loop-expr.terms (omega arith) c.expr-item.is c.in_err-term.ensures c.loop-expr.invariant)

pub returns : goal.returns
returns g c = part_ends c.args.scope.now c.deref-expr-items.result.now c.loop-expr.expr-index _ c.loop-expr.terms (omega arith) c.loop-expr.invariant
