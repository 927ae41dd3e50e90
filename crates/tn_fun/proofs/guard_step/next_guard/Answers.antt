use Rattle.std.proofs.Common.{◌<◌, [], ap, sym, ◌∙◌, subst, arith, Ok}
use Rattle.std.proofs.lemmas.List.{length-map}
use Rattle.def_fun.specs.Reading.{in_guard, expr_start, clauses_in_guard}
use Rattle.tn_fun.specs.Trees.{fun_row_seen}
use Rattle.tn_fun.specs.Clauses.{guard_seen}
use Rattle.tn_fun.specs.FunStates.{clause_so_far_seen, IsCountOf}
use Rattle.tn_fun.proofs.FunSteps.{fewer}
use Rattle.tn_fun.proofs.guard_step.next_guard.Goals as goal

pub returns : goal.returns
returns g c = λ text r count.
    let k = c.in_ok-clause.clause in
    let guards = c.args.clause.guards in
    let size = guards.ok.0 in
    let few : clauses_in_guard (clause_so_far_seen text c.args.clause) < 4096 = omega (arith, size, count, c.len-guards.ensures, c.saturating_add-count.ensures, c.if-count.false, length-map guards.items (guard_seen text)) in (
      fewer (clauses_in_guard (clause_so_far_seen text c.args.clause)) 4096 _ few
          ∙ ap (λ x. Ok (in_guard x [] expr_start)) (sym (c.in_ok-clause.ensures.seen text))
          ∙ ap (λ es. Ok (in_guard (clause_so_far_seen text k) (fun_row_seen text es) expr_start)) (sym c.new.ensures.items)
          ∙ ap (λ s. Ok (in_guard (clause_so_far_seen text k) (fun_row_seen text c.new.result.items) s)) (sym (c.expr_start.ensures.start text)),
      (subst (IsCountOf text) (sym c.in_ok-clause.ensures.earlier) count, c.expr_start.ensures.counted text),
    )
