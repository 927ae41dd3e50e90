use Rattle.std.proofs.Common.{[], ap, sym, ◌∙◌, subst, Ok}
use Rattle.def_fun.specs.Reading.{in_fun_body, expr_start}
use Rattle.tn_fun.specs.Trees.{fun_row_seen}
use Rattle.tn_fun.specs.FunStates.{clause_so_far_seen, IsCountOf}
use Rattle.tn_fun.proofs.guard_step.begin_body.Goals as goal

pub returns : goal.returns
returns g c = λ text r count.
    let k = c.in_ok-clause.clause in (
      ap (λ x. Ok (in_fun_body x [] expr_start)) (sym (c.in_ok-clause.ensures.seen text))
          ∙ ap (λ es. Ok (in_fun_body (clause_so_far_seen text k) (fun_row_seen text es) expr_start)) (sym c.new.ensures.items)
          ∙ ap (λ s. Ok (in_fun_body (clause_so_far_seen text k) (fun_row_seen text c.new.result.items) s)) (sym (c.expr_start.ensures.start text)),
      (subst (IsCountOf text) (sym c.in_ok-clause.ensures.earlier) count, c.expr_start.ensures.counted text),
    )
