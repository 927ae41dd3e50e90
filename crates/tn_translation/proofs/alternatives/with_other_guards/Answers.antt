use Rattle.std.proofs.Common.{◌∙◌, arith}
use Rattle.std.proofs.lemmas.Result.{err_from_is_err_and}
use Rattle.tn_translation.specs.Scopes.{text_of}
use Rattle.tn_translation.specs.Specifications.{clauses_so_far}
use Rattle.tn_translation.specs.Values.{term_row_seen}
use Rattle.tn_translation.proofs.GuardClauses.{guard_fails, guard_too_long, guard_next, guards_end}
use Rattle.tn_translation.proofs.Steps.{refused_same}
use Rattle.tn_translation.proofs.alternatives.with_other_guards.Goals as goal

pub loop-i-preserved : goal.loop-i-preserved
loop-i-preserved g c = λ k shared there.
    let size = c.len-i-end.ensures ∙ c.args.guards.now.ok.0 in
    c.loop-i.invariant k shared there
    ∙ guard_next c.args.scope.now k c.args.shared.now shared there c.args.guards.now.items c.loop-i.i (clauses_so_far c.loop-i.spec) c.index.result.now (omega (arith, size)) c.index.ensures (term_row_seen c.in_ok-conditions.conditions) c.in_ok-conditions.ensures _ (c.in_ok-spec.ensures (text_of c.args.scope.now))

pub returns-in_err-conditions : goal.returns-in_err-conditions
returns-in_err-conditions g c = λ k shared there.
    let size = c.len-i-end.ensures ∙ c.args.guards.now.ok.0 in
    let p = err_from_is_err_and c.from_residual.result c.from_residual.ensures.1 in
    rw (p.1, p.2) (refused_same _ _ _ (c.loop-i.invariant k shared there)
    (guard_fails c.args.scope.now k c.args.shared.now shared there c.args.guards.now.items c.loop-i.i (clauses_so_far c.loop-i.spec) c.index.result.now (omega (arith, size)) c.index.ensures _ c.in_err-conditions.ensures))

pub returns-in_err-spec : goal.returns-in_err-spec
returns-in_err-spec g c = λ k shared there.
    let size = c.len-i-end.ensures ∙ c.args.guards.now.ok.0 in
    let p = err_from_is_err_and c.from_residual-in_err-spec.result c.from_residual-in_err-spec.ensures.1 in
    rw (p.1, p.2) (refused_same _ _ _ (c.loop-i.invariant k shared there)
    (guard_too_long c.args.scope.now k c.args.shared.now shared there c.args.guards.now.items c.loop-i.i (clauses_so_far c.loop-i.spec) c.index.result.now (omega (arith, size)) c.index.ensures (term_row_seen c.in_ok-conditions.conditions) c.in_ok-conditions.ensures _ (c.in_err-spec.ensures (text_of c.args.scope.now))))

pub returns : goal.returns
returns g c = λ k shared there.
    let size = c.len-i-end.ensures ∙ c.args.guards.now.ok.0 in
    c.loop-i.invariant k shared there ∙ guards_end c.args.scope.now k c.args.shared.now shared there c.args.guards.now.items c.loop-i.i (clauses_so_far c.loop-i.spec) (omega (arith, size))
