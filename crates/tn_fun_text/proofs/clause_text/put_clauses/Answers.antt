use Rattle.std.proofs.Common.{refl, arith}
use Rattle.def_fun.specs.FunTexts.{CLAUSE_BREAK}
use Rattle.tn_term.specs.Views.{tree_of}
use Rattle.tn_spec.specs.Views.{dialect_of}
use Rattle.tn_fun_text.specs.Texts.{fun_clause_text, clauses_text}
use Rattle.tn_fun_text.proofs.Loops.{next_written, all_written}
use Rattle.tn_fun_text.proofs.clause_text.put_clauses.Goals as goal

pub loop-i-preserved : goal.loop-i-preserved
loop-i-preserved g c =
    let stored = c.args.terms.now.ok.0 in
    let d = dialect_of c.args.dialect in
    let x = c.index.result.now in
    next_written (clauses_text d c.loop-i.between.now) (clauses_text d CLAUSE_BREAK) c.args.terms.now.items c.loop-i.i x c.loop-i.between.now (fun_clause_text d (tree_of x)) c.loop-i.out.items c.extend_from_slice.new.self.items c.put_clause.new.out.items _
    (λ ts. refl) (omega arith) c.index.ensures c.loop-i.invariant c.in_ok-extend_from_slice.ensures.items c.in_ok-put_clause.ensures

pub returns : goal.returns
returns g c =
    let stored = c.args.terms.now.ok.0 in
    all_written (clauses_text (dialect_of c.args.dialect) c.loop-i.between.now) refl c.args.terms.now.items c.loop-i.i c.loop-i.out.items _ (omega arith) c.loop-i.invariant
