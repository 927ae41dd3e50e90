use Rattle.std.proofs.Common.{Err, subst}
use Rattle.def_fun.specs.FunTexts.{expr_of_term}
use Rattle.tn_term.specs.Views.{tree_of}
use Rattle.tn_spec.specs.Names.{position_seen}
use Rattle.tn_spec.specs.Views.{dialect_of}
use Rattle.tn_fun_text.specs.Clauses.{numbered_part}
use Rattle.tn_fun_text.specs.Reasons.{no_fun_reason, SaysReason}
use Rattle.tn_fun_text.proofs.ClauseChecks.{part_none, part_says}
use Rattle.tn_fun_text.proofs.clause_check.check_part.Goals as goal

pub returns-in-Ok : goal.returns-in-Ok
returns-in-Ok g c =
    let part = position_seen c.args.scope.part in
    part_none c.args.clause (numbered_part part c.args.number) (expr_of_term (dialect_of c.args.scope.dialect) part (tree_of c.args.term.now)) c.in-Ok.ensures

pub returns-in-Err-Reason : goal.returns-in-Err-Reason
returns-in-Err-Reason g c =
    let part = position_seen c.args.scope.part in
    part_says (Unit {0}) c.args.clause c.part_numbered.result (numbered_part part c.args.number) (expr_of_term (dialect_of c.args.scope.dialect) part (tree_of c.args.term.now)) c.in-Err-Reason.reason c.in_part.result c.in_part.ensures c.part_numbered.ensures
    (subst (λ f. SaysReason {U = Unit {0}} (no_fun_reason (expr_of_term (dialect_of c.args.scope.dialect) part (tree_of c.args.term.now))) (Err f)) c.in-Err-Reason.field-0-is c.in-Err-Reason.ensures)
