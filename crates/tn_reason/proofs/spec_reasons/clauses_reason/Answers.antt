use Rattle.std.proofs.Common.{◌∙◌, sym, ap, arith}
use Rattle.std.specs.Option.{option_map}
use Rattle.def_explain.specs.SpecReasons.{at_clause, clause_reason, reason_after}
use Rattle.tn_term.specs.Views.{trees_of}
use Rattle.tn_spec.specs.Views.{dialect_of}
use Rattle.tn_reason.specs.SpecReasons.{clause_reason_seen, clause_reasons_seen}
use Rattle.tn_reason.proofs.SpecReasons.{reason_here, reason_later}
use Rattle.tn_reason.proofs.spec_reasons.clauses_reason.Goals as goal

pub returns-in-Some : goal.returns-in-Some
returns-in-Some g c =
    let f = clause_reason (dialect_of c.args.dialect) in
    let xs = c.args.terms.now.items in
    let size = c.len-i-end.ensures ∙ c.args.terms.now.ok.0 in
    ap (option_map (λ x. at_clause x.0 x.1))
    (reason_here f xs c.loop-i.i (reason_after f 0 (trees_of xs)) c.index.result.now (clause_reason_seen c.in-Some.why) (omega (arith, size)) c.index.ensures
    (sym (ap clause_reasons_seen c.in-Some.is) ∙ c.in_ok-why.ensures) c.loop-i.invariant)

pub loop-i-preserved : goal.loop-i-preserved
loop-i-preserved g c =
    let f = clause_reason (dialect_of c.args.dialect) in
    let xs = c.args.terms.now.items in
    let size = c.len-i-end.ensures ∙ c.args.terms.now.ok.0 in
    reason_later f xs c.loop-i.i (reason_after f 0 (trees_of xs)) c.index.result.now (omega (arith, size)) c.index.ensures
    (sym (ap clause_reasons_seen c.in_default.is) ∙ c.in_ok-why.ensures) c.loop-i.invariant
