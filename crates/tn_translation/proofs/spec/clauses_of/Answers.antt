use Rattle.std.proofs.Common.{◌∙◌, arith}
use Rattle.std.proofs.lemmas.Result.{err_from_is_err_and}
use Rattle.tn_spec.specs.Views.{dialect_of}
use Rattle.tn_translation.specs.Specifications.{clauses_so_far}
use Rattle.tn_translation.proofs.Steps.{refused_same}
use Rattle.tn_translation.proofs.WholeFuns.{clause_fails, clause_next, clauses_end}
use Rattle.tn_translation.proofs.spec.clauses_of.Goals as goal

pub loop-clause-preserved : goal.loop-clause-preserved
loop-clause-preserved g c =
    c.loop-clause.invariant ∙ clause_next c.args.bytes.now (dialect_of c.args.dialect) c.deref-clause-items.result.now c.loop-clause.clause-index (clauses_so_far c.loop-clause.spec) c.clause-item.result (omega arith) c.clause-item.is _ c.in_ok-spec-2.ensures

pub returns-in_err-spec-2 : goal.returns-in_err-spec-2
returns-in_err-spec-2 g c =
    let p = err_from_is_err_and c.from_residual-in_err-spec-2.result c.from_residual-in_err-spec-2.ensures.1 in
    rw (p.1, p.2) (refused_same _ _ _ c.loop-clause.invariant (clause_fails c.args.bytes.now (dialect_of c.args.dialect) c.deref-clause-items.result.now c.loop-clause.clause-index (clauses_so_far c.loop-clause.spec) c.clause-item.result (omega arith) c.clause-item.is _ c.in_err-spec-2.ensures))

pub returns : goal.returns
returns g c = c.loop-clause.invariant ∙ clauses_end c.args.bytes.now (dialect_of c.args.dialect) c.deref-clause-items.result.now c.loop-clause.clause-index (clauses_so_far c.loop-clause.spec) (omega arith)
