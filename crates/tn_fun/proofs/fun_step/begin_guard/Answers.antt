use Rattle.std.proofs.Common.{Ok, ap, sym, ◌∙◌}
use Rattle.def_fun.specs.Reading.{in_guard, in_fun_body, expr_start, begin_guard}
use Rattle.tn_fun.specs.Tokens.{fun_token_seen}
use Rattle.tn_fun.specs.Trees.{fun_row_seen}
use Rattle.tn_fun.specs.FunStates.{clause_so_far_seen}
use Rattle.tn_fun.proofs.OtherKinds.{not_guard}
use Rattle.tn_fun.proofs.fun_step.begin_guard.Goals as goal

pub returns-in-When : goal.returns-in-When
returns-in-When g c = λ text u more count.
    let k = clause_so_far_seen text c.args.clause in (
      ap (λ x. begin_guard k (fun_token_seen x u more)) c.in-When.is
          ∙ ap (λ es. Ok (in_guard k (fun_row_seen text es) expr_start)) (sym c.new.ensures.items)
          ∙ ap (λ s. Ok (in_guard k (fun_row_seen text c.new.result.items) s)) (sym (c.expr_start.ensures.start text)),
      (count, c.expr_start.ensures.counted text),
    )

pub returns-in-Arrow : goal.returns-in-Arrow
returns-in-Arrow g c = λ text u more count.
    let k = clause_so_far_seen text c.args.clause in (
      ap (λ x. begin_guard k (fun_token_seen x u more)) c.in-Arrow.is
          ∙ ap (λ es. Ok (in_fun_body k (fun_row_seen text es) expr_start)) (sym c.new-in-Arrow.ensures.items)
          ∙ ap (λ s. Ok (in_fun_body k (fun_row_seen text c.new-in-Arrow.result.items) s)) (sym (c.expr_start-in-Arrow.ensures.start text)),
      (count, c.expr_start-in-Arrow.ensures.counted text),
    )

pub returns-in_default : goal.returns-in_default
returns-in_default g c = λ text u more count. not_guard c.args.kind (clause_so_far_seen text c.args.clause) u more (λ e. c.in_default.not-When e) (λ e. c.in_default.not-Arrow e)
