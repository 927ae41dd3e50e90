use Rattle.std.proofs.Common.{refl, subst, arith}
use Rattle.tn_term.specs.Views.{trees_of}
use Rattle.tn_spec.specs.Views.{dialect_of}
use Rattle.tn_fun_text.specs.Clauses.{no_fun_in, SaysNoFun}
use Rattle.tn_fun_text.proofs.ClauseChecks.{not_three, no_conditions, no_body, three_printed, in_clause_head}
use Rattle.tn_fun_text.proofs.clause_check.check_fields.Goals as goal

pub returns-then-len-ne3 : goal.returns-then-len-ne3
returns-then-len-ne3 g c =
    let stored = c.args.fields.now.ok.0 in
    in_clause_head (Unit {0}) c.in_part.result _ c.args.clause _ c.in_part.ensures refl (not_three (dialect_of c.args.dialect) c.args.clause c.args.fields.now.items (λ e. c.if-len-ne3.true (omega (arith, e))))

pub returns-in_default : goal.returns-in_default
returns-in_default g c =
    let stored = c.args.fields.now.ok.0 in
    in_clause_head (Unit {0}) c.in_part-in_default.result _ c.args.clause _ c.in_part-in_default.ensures refl (no_conditions (dialect_of c.args.dialect) c.args.clause c.args.fields.now.items c.index.result.now (omega arith) c.index.ensures c.in_default.ensures)

pub returns-in_default-elements : goal.returns-in_default-elements
returns-in_default-elements g c =
    let stored = c.args.fields.now.ok.0 in
    in_clause_head (Unit {0}) c.in_part-in_default-elements.result _ c.args.clause _ c.in_part-in_default-elements.ensures refl (no_body (dialect_of c.args.dialect) c.args.clause c.args.fields.now.items c.index-2.result.now (omega arith) c.index-2.ensures c.in_default-elements.ensures)

pub returns : goal.returns
returns g c =
    let stored = c.args.fields.now.ok.0 in
    subst (λ r. SaysNoFun (no_fun_in r) c.check_three.result)
    (three_printed (dialect_of c.args.dialect) c.args.clause c.args.fields.now.items c.index-3.result.now c.index.result.now c.index-2.result.now (trees_of c.in-Some.conditions.now.items) (trees_of c.in-Some-elements.body.now.items) (omega arith) c.index-3.ensures c.index.ensures c.index-2.ensures c.in-Some.ensures c.in-Some-elements.ensures) c.check_three.ensures
