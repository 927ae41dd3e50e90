use Rattle.std.proofs.Common.{None, ◌+◌, refl, arith}
use Rattle.std.proofs.lemmas.Result.{err_from_is_err_and}
use Rattle.std.specs.Option.{option_or}
use Rattle.def_fun.specs.FunTexts.{reason_at, expr_of_term, parts_printed}
use Rattle.tn_spec.specs.Names.{position_seen}
use Rattle.tn_spec.specs.Views.{dialect_of}
use Rattle.tn_fun_text.specs.Clauses.{no_fun_in, numbered_part}
use Rattle.tn_fun_text.proofs.Loops.{passed, ended}
use Rattle.tn_fun_text.proofs.ClauseChecks.{each_part, part_fails}
use Rattle.tn_fun_text.proofs.clause_check.check_parts.Goals as goal

pub loop-i-preserved : goal.loop-i-preserved
loop-i-preserved g c =
    let stored = c.args.terms.now.ok.0 in
    let d = dialect_of c.args.scope.dialect in
    let part = position_seen c.args.scope.part in
    let n = c.args.clause in
    let p = numbered_part part in
    let k = c.loop-i.i + 1 in
    passed option_or (λ ts. no_fun_in (parts_printed d part n p k ts)) (λ ts. no_fun_in (parts_printed d part n p (k + 1) ts)) (λ u. no_fun_in (reason_at n (p k) (expr_of_term d part u))) (each_part d part n p k) c.args.terms.now.items c.loop-i.i c.index.result.now None _ (omega arith) c.index.ensures c.in_ok-check_part.ensures (λ b. refl) c.loop-i.invariant

pub returns-in_err-check_part : goal.returns-in_err-check_part
returns-in_err-check_part g c =
    let stored = c.args.terms.now.ok.0 in
    let d = dialect_of c.args.scope.dialect in
    let part = position_seen c.args.scope.part in
    let q = err_from_is_err_and c.from_residual.result c.from_residual.ensures.1 in
    rw (q.1, q.2) (part_fails d (Unit {0}) (Unit {0}) part c.args.clause (numbered_part part) (c.loop-i.i + 1) c.args.terms.now.items c.loop-i.i c.index.result.now _ _ (omega arith) c.index.ensures c.in_err-check_part.ensures c.loop-i.invariant)

pub returns : goal.returns
returns g c =
    let stored = c.args.terms.now.ok.0 in
    let d = dialect_of c.args.scope.dialect in
    let part = position_seen c.args.scope.part in
    ended (λ ts. no_fun_in (parts_printed d part c.args.clause (numbered_part part) (c.loop-i.i + 1) ts)) c.args.terms.now.items c.loop-i.i None _ refl (omega arith) c.loop-i.invariant
