use Rattle.std.proofs.Common.{sym, arith}
use Rattle.tn_term.specs.Views.{trees_of}
use Rattle.tn_text.proofs.Growth.{written_as}
use Rattle.tn_spec.specs.Views.{dialect_of}
use Rattle.tn_fun_text.proofs.ClauseChecks.{no_three_text, no_conditions_text, no_body_text, three_text}
use Rattle.tn_fun_text.proofs.ExprWritten.{nothing_written}
use Rattle.tn_fun_text.proofs.clause_text.put_fields.Goals as goal

pub returns-then-len-ne3 : goal.returns-then-len-ne3
returns-then-len-ne3 g c =
    let stored = c.args.fields.now.ok.0 in
    nothing_written c.args.out.now.items _ (no_three_text (dialect_of c.args.dialect) c.args.fields.now.items (λ e. c.if-len-ne3.true (omega (arith, e))))

pub returns-in_default : goal.returns-in_default
returns-in_default g c =
    let stored = c.args.fields.now.ok.0 in
    nothing_written c.args.out.now.items _ (no_conditions_text (dialect_of c.args.dialect) c.args.fields.now.items c.index.result.now (omega arith) c.index.ensures c.in_default.ensures)

pub returns-in_default-elements : goal.returns-in_default-elements
returns-in_default-elements g c =
    let stored = c.args.fields.now.ok.0 in
    nothing_written c.args.out.now.items _ (no_body_text (dialect_of c.args.dialect) c.args.fields.now.items c.index-2.result.now (omega arith) c.index-2.ensures c.in_default-elements.ensures)

pub returns : goal.returns
returns g c =
    let stored = c.args.fields.now.ok.0 in
    written_as c.put_three.result c.args.out.now.items c.put_three.new.out.items
    (sym (three_text (dialect_of c.args.dialect) c.args.fields.now.items c.index-3.result.now c.index.result.now c.index-2.result.now (trees_of c.in-Some.conditions.now.items) (trees_of c.in-Some-elements.body.now.items) (omega arith) c.index-3.ensures c.index.ensures c.index-2.ensures c.in-Some.ensures c.in-Some-elements.ensures)) c.put_three.ensures
