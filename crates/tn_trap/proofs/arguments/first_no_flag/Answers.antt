use Rattle.std.proofs.Common.{◌∙◌, sym, ap, arith}
use Rattle.def_trap.specs.Traps.{first_no_flag}
use Rattle.tn_term.specs.Views.{tree_of}
use Rattle.tn_spec.specs.Views.{exprs_seen}
use Rattle.tn_trap.specs.Views.{terms_seen}
use Rattle.tn_trap.proofs.Firsts.{constant_here, constant_later}
use Rattle.tn_trap.proofs.arguments.first_no_flag.Goals as goal

pub returns-in-Some : goal.returns-in-Some
returns-in-Some g c =
    let es = c.args.exprs.now.items in
    let size = c.len-i-end.ensures ∙ c.args.exprs.now.ok.0 in
    constant_here es c.loop-i.i (first_no_flag (exprs_seen es)) c.index.result.now (tree_of c.in-Some.term.now) (omega (arith, size)) c.index.ensures
    (sym (ap terms_seen c.in-Some.is) ∙ c.no_flag.ensures) c.loop-i.invariant

pub loop-i-preserved : goal.loop-i-preserved
loop-i-preserved g c =
    let es = c.args.exprs.now.items in
    let size = c.len-i-end.ensures ∙ c.args.exprs.now.ok.0 in
    constant_later es c.loop-i.i (first_no_flag (exprs_seen es)) c.index.result.now (omega (arith, size)) c.index.ensures
    (sym (ap terms_seen c.in_default.is) ∙ c.no_flag.ensures) c.loop-i.invariant
