use Rattle.std.proofs.Common.{◌≡◌, IfOk, subst, arith}
use Rattle.tn_spec.specs.Views.{dialect_of}
use Rattle.tn_reason.specs.SpecReasons.{clause_reasons_seen}
use Rattle.tn_reason.proofs.SpecReasons.{not_three, of_three}
use Rattle.tn_reason.proofs.spec_reasons.fields_reason.Goals as goal

pub returns-then-len-ne3 : goal.returns-then-len-ne3
returns-then-len-ne3 g c = let stored = c.args.fields.now.ok.0 in not_three (dialect_of c.args.dialect) c.args.fields.now.items _ (omega arith) (λ e. c.if-len-ne3.true (omega (arith, e)))

pub returns : goal.returns
returns g c =
    let stored = c.args.fields.now.ok.0 in
    subst (λ o. IfOk c.three_reason.result (λ r. clause_reasons_seen r ≡ o))
    (of_three (dialect_of c.args.dialect) c.args.fields.now.items c.index.result.now c.index-2.result.now c.index-3.result.now (omega arith) c.index.ensures c.index-2.ensures c.index-3.ensures) c.three_reason.ensures
