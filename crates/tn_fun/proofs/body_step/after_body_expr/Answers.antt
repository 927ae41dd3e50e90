use Rattle.std.proofs.Common.{true, sym, subst}
use Rattle.def_fun.specs.Limits.{FUN_DEPTH}
use Rattle.def_fun.specs.Reading.{body_after}
use Rattle.tn_fun.specs.Tokens.{fun_token_seen}
use Rattle.tn_fun.specs.Trees.{fun_row_seen}
use Rattle.tn_fun.specs.FunStates.{clause_so_far_seen, StepsFun}
use Rattle.tn_fun.proofs.OtherKinds.{no_body_expr}
use Rattle.tn_fun.proofs.FunSteps.{never_ends}
use Rattle.tn_fun.proofs.body_step.after_body_expr.Goals as goal

pub returns-in-Comma : goal.returns-in-Comma
returns-in-Comma g c = λ text u more r ends count.
    subst (λ k. StepsFun text c.more_of_body.result (body_after FUN_DEPTH true (clause_so_far_seen text c.args.clause) (fun_row_seen text c.args.body.items) (fun_token_seen k u more) r)) (sym c.in-Comma.is) (c.more_of_body.ensures text r count)

pub returns-in-Semicolon : goal.returns-in-Semicolon
returns-in-Semicolon g c = λ text u more r ends count.
    subst (λ k. StepsFun text c.next_clause.result (body_after FUN_DEPTH true (clause_so_far_seen text c.args.clause) (fun_row_seen text c.args.body.items) (fun_token_seen k u more) r)) (sym c.in-Semicolon.is) (c.next_clause.ensures text r count)

pub returns-in-End : goal.returns-in-End
returns-in-End g c = λ text u more r ends count.
    subst (λ k. StepsFun text c.end_fun.result (body_after FUN_DEPTH true (clause_so_far_seen text c.args.clause) (fun_row_seen text c.args.body.items) (fun_token_seen k u more) r)) (sym c.in-End.is) (c.end_fun.ensures text r)

pub returns-in_default : goal.returns-in_default
returns-in_default g c = λ text u more r ends count.
    let d = c.in_default in
    absurd (never_ends _ (no_body_expr c.args.kind u more (λ e. d.not-Comma e) (λ e. d.not-Semicolon e) (λ e. d.not-End e)) ends)
