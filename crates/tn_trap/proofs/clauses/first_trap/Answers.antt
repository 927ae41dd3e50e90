use Rattle.std.proofs.Common.{◌∙◌, sym, ap, arith, map}
use Rattle.def_trap.specs.Traps.{trap_after}
use Rattle.tn_spec.specs.Views.{dialect_of, clause_seen}
use Rattle.tn_trap.specs.Views.{trap_seen, traps_seen}
use Rattle.tn_trap.proofs.Firsts.{clause_here, clause_later}
use Rattle.tn_trap.proofs.clauses.first_trap.Goals as goal

pub returns-in-Some : goal.returns-in-Some
returns-in-Some g c =
    let ks = c.args.clauses.now.items in
    let size = c.len-before-end.ensures ∙ c.args.clauses.now.ok.0 in
    let d = dialect_of c.args.dialect in
    clause_here d c.args.lengths.now ks c.loop-before.before (trap_after d c.args.lengths.now 0 (map clause_seen ks)) c.index.result.now (trap_seen c.in-Some.trap) (omega (arith, size)) c.index.ensures
    (sym (ap traps_seen c.in-Some.is) ∙ c.clause_trap.ensures) c.loop-before.invariant

pub loop-before-preserved : goal.loop-before-preserved
loop-before-preserved g c =
    let ks = c.args.clauses.now.items in
    let size = c.len-before-end.ensures ∙ c.args.clauses.now.ok.0 in
    let d = dialect_of c.args.dialect in
    clause_later d c.args.lengths.now ks c.loop-before.before (trap_after d c.args.lengths.now 0 (map clause_seen ks)) c.index.result.now (omega (arith, size)) c.index.ensures
    (sym (ap traps_seen c.in_default.is) ∙ c.clause_trap.ensures) c.loop-before.invariant
