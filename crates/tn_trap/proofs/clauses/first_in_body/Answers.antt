use Rattle.std.proofs.Common.{◌∙◌, sym, ap, arith}
use Rattle.def_trap.specs.Traps.{first_in_body}
use Rattle.tn_spec.specs.Views.{dialect_of, exprs_seen}
use Rattle.tn_trap.specs.Views.{body_trap_seen, body_traps_seen}
use Rattle.tn_trap.proofs.Firsts.{body_here, body_later}
use Rattle.tn_trap.proofs.clauses.first_in_body.Goals as goal

pub returns-in-Some : goal.returns-in-Some
returns-in-Some g c =
    let es = c.args.body.now.items in
    let size = c.len-before-end.ensures ∙ c.args.body.now.ok.0 in
    body_here (dialect_of c.args.dialect) es c.loop-before.before (first_in_body (dialect_of c.args.dialect) 0 (exprs_seen es)) c.index.result.now (body_trap_seen c.in-Some.trap) (omega (arith, size)) c.index.ensures
    (sym (ap body_traps_seen c.in-Some.is) ∙ c.body_trap.ensures) c.loop-before.invariant

pub loop-before-preserved : goal.loop-before-preserved
loop-before-preserved g c =
    let es = c.args.body.now.items in
    let size = c.len-before-end.ensures ∙ c.args.body.now.ok.0 in
    body_later (dialect_of c.args.dialect) es c.loop-before.before (first_in_body (dialect_of c.args.dialect) 0 (exprs_seen es)) c.index.result.now (omega (arith, size)) c.index.ensures
    (sym (ap body_traps_seen c.in_default.is) ∙ c.body_trap.ensures) c.loop-before.invariant
