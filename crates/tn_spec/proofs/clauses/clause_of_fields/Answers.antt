use Rattle.std.proofs.Common.{arith}
use Rattle.tn_spec.specs.Views.{dialect_of}
use Rattle.tn_spec.proofs.Parts.{not_three, no_conditions, no_body}
use Rattle.tn_spec.proofs.clauses.clause_of_fields.Goals as goal

pub returns-then-len-ne3 : goal.returns-then-len-ne3
returns-then-len-ne3 g c = let stored = c.args.fields.now.ok.0 in not_three (dialect_of c.args.dialect) c.args.fields.now.items (λ e. c.if-len-ne3.true (omega (arith, e)))

pub returns-in_default : goal.returns-in_default
returns-in_default g c = let stored = c.args.fields.now.ok.0 in no_conditions (dialect_of c.args.dialect) c.args.fields.now.items c.index.result.now (omega arith) c.index.ensures c.in_default.ensures

pub returns-in_default-elements : goal.returns-in_default-elements
returns-in_default-elements g c =
    let stored = c.args.fields.now.ok.0 in no_body (dialect_of c.args.dialect) c.args.fields.now.items c.index-2.result.now (omega arith) c.index-2.ensures c.in_default-elements.ensures
