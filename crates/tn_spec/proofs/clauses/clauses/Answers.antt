use Rattle.std.proofs.Common.{◌∙◌, map, sym, subst, arith}
use Rattle.std.proofs.lemmas.Result.{err_from_is_err_and}
use Rattle.def_spec.specs.Reading.{clause_of}
use Rattle.tn_term.specs.Views.{tree_of}
use Rattle.tn_spec.specs.Answers.{IsFaultOf, each_read}
use Rattle.tn_spec.specs.Views.{dialect_of, clause_seen}
use Rattle.tn_spec.proofs.Each.{read_fails, read_next, read_ends, clauses_each}
use Rattle.tn_spec.proofs.clauses.clauses.Goals as goal

pub returns-in_err-clause : goal.returns-in_err-clause
returns-in_err-clause g c =
    let f = clause_of (dialect_of c.args.dialect) in
    let p = err_from_is_err_and c.from_residual.result c.from_residual.ensures.1 in
    rw (p.1, p.2)
    (subst (λ r. IsFaultOf r c.in_err-clause.field-0.0) (sym (clauses_each (dialect_of c.args.dialect) (map tree_of c.args.terms.now.items)))
    (read_fails f tree_of clause_seen (each_read f (map tree_of c.args.terms.now.items)) c.deref-term-items.result.now c.loop-term.term-index c.loop-term.clauses.items c.term-item.result c.in_err-clause.field-0.0
    (omega arith) c.term-item.is c.in_err-clause.ensures c.loop-term.invariant))

pub loop-term-preserved : goal.loop-term-preserved
loop-term-preserved g c =
    let f = clause_of (dialect_of c.args.dialect) in
    read_next f tree_of clause_seen (each_read f (map tree_of c.args.terms.now.items)) c.deref-term-items.result.now c.loop-term.term-index c.term-item.result c.loop-term.clauses.items c.push.new.self.items c.in_ok-clause.field-0
    (omega arith) c.term-item.is c.in_ok-clause.ensures c.in_ok-push.ensures.items c.loop-term.invariant

pub returns : goal.returns
returns g c =
    let f = clause_of (dialect_of c.args.dialect) in
    clauses_each (dialect_of c.args.dialect) (map tree_of c.args.terms.now.items)
    ∙ read_ends f tree_of clause_seen (each_read f (map tree_of c.args.terms.now.items)) c.deref-term-items.result.now c.loop-term.term-index c.loop-term.clauses.items (omega arith) c.loop-term.invariant
