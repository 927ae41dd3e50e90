use Rattle.std.proofs.Common.{None, ◌+◌, refl, arith}
use Rattle.std.proofs.lemmas.Result.{err_from_is_err_and}
use Rattle.std.specs.Option.{option_or}
use Rattle.def_fun.specs.FunTexts.{clause_printed, clauses_printed}
use Rattle.tn_spec.specs.Views.{dialect_of}
use Rattle.tn_fun_text.specs.Clauses.{no_fun_in}
use Rattle.tn_fun_text.proofs.Loops.{passed, ended}
use Rattle.tn_fun_text.proofs.ClauseChecks.{each_clause, clause_fails}
use Rattle.tn_fun_text.proofs.clause_check.check_clauses.Goals as goal

pub loop-i-preserved : goal.loop-i-preserved
loop-i-preserved g c =
    let stored = c.args.terms.now.ok.0 in
    let d = dialect_of c.args.dialect in
    let n = c.loop-i.i + 1 in
    passed option_or (λ ts. no_fun_in (clauses_printed d n ts)) (λ ts. no_fun_in (clauses_printed d (n + 1) ts)) (λ u. no_fun_in (clause_printed d n u)) (each_clause d n) c.args.terms.now.items c.loop-i.i c.index.result.now None _ (omega arith) c.index.ensures c.in_ok-check_clause.ensures (λ b. refl) c.loop-i.invariant

pub returns-in_err-check_clause : goal.returns-in_err-check_clause
returns-in_err-check_clause g c =
    let stored = c.args.terms.now.ok.0 in
    let q = err_from_is_err_and c.from_residual.result c.from_residual.ensures.1 in
    rw (q.1, q.2) (clause_fails (dialect_of c.args.dialect) (Unit {0}) (Unit {0}) (c.loop-i.i + 1) c.args.terms.now.items c.loop-i.i c.index.result.now _ _ (omega arith) c.index.ensures c.in_err-check_clause.ensures c.loop-i.invariant)

pub returns : goal.returns
returns g c =
    let stored = c.args.terms.now.ok.0 in
    ended (λ ts. no_fun_in (clauses_printed (dialect_of c.args.dialect) (c.loop-i.i + 1) ts)) c.args.terms.now.items c.loop-i.i None _ refl (omega arith) c.loop-i.invariant
