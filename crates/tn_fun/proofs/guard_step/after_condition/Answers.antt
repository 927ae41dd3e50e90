use Rattle.std.proofs.Common.{true, sym, subst}
use Rattle.def_fun.specs.Limits.{FUN_DEPTH}
use Rattle.def_fun.specs.Reading.{guard_after}
use Rattle.tn_fun.specs.Tokens.{fun_token_seen}
use Rattle.tn_fun.specs.Trees.{fun_row_seen}
use Rattle.tn_fun.specs.FunStates.{clause_so_far_seen, StepsFun}
use Rattle.tn_fun.proofs.OtherKinds.{no_condition}
use Rattle.tn_fun.proofs.FunSteps.{never_ends}
use Rattle.tn_fun.proofs.guard_step.after_condition.Goals as goal

pub returns-in-Comma : goal.returns-in-Comma
returns-in-Comma g c = λ text u more r ends count.
    subst (λ k. StepsFun text c.more_conditions.result (guard_after FUN_DEPTH true (clause_so_far_seen text c.args.clause) (fun_row_seen text c.args.conditions.items) (fun_token_seen k u more) r)) (sym c.in-Comma.is) (c.more_conditions.ensures text r count)

pub returns-in-Semicolon : goal.returns-in-Semicolon
returns-in-Semicolon g c = λ text u more r ends count.
    subst (λ k. StepsFun text c.next_guard.result (guard_after FUN_DEPTH true (clause_so_far_seen text c.args.clause) (fun_row_seen text c.args.conditions.items) (fun_token_seen k u more) r)) (sym c.in-Semicolon.is) (c.next_guard.ensures text r count)

pub returns-in-Arrow : goal.returns-in-Arrow
returns-in-Arrow g c = λ text u more r ends count.
    subst (λ k. StepsFun text c.begin_body.result (guard_after FUN_DEPTH true (clause_so_far_seen text c.args.clause) (fun_row_seen text c.args.conditions.items) (fun_token_seen k u more) r)) (sym c.in-Arrow.is) (c.begin_body.ensures text r count)

pub returns-in_default : goal.returns-in_default
returns-in_default g c = λ text u more r ends count.
    let d = c.in_default in
    absurd (never_ends _ (no_condition c.args.kind u more (λ e. d.not-Comma e) (λ e. d.not-Semicolon e) (λ e. d.not-Arrow e)) ends)
