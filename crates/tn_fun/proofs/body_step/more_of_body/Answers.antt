use Rattle.std.proofs.Common.{◌<◌, length, ap, sym, ◌∙◌, arith, Ok}
use Rattle.std.proofs.lemmas.List.{length-map}
use Rattle.def_fun.specs.Reading.{in_fun_body}
use Rattle.tn_fun.specs.Trees.{fun_expr_seen, fun_row_seen}
use Rattle.tn_fun.specs.FunStates.{clause_so_far_seen}
use Rattle.tn_fun.proofs.FunSteps.{fewer}
use Rattle.tn_fun.proofs.body_step.more_of_body.Goals as goal

pub returns : goal.returns
returns g c = λ text r count.
    let k = clause_so_far_seen text c.args.clause in
    let es = fun_row_seen text c.args.body.items in
    let size = c.args.body.ok.0 in
    let few : length es < 4096 = omega (arith, size, c.len.ensures, c.if-len-ge-MAX_LIST.false, length-map c.args.body.items (fun_expr_seen text)) in
    (fewer (length es) 4096 _ few ∙ ap (λ s. Ok (in_fun_body k es s)) (sym (c.expr_start.ensures.start text)), (count, c.expr_start.ensures.counted text))
