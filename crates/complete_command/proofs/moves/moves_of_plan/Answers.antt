use Rattle.std.proofs.Common.{◌≡◌, ◌∙◌, ap, sym}
use Rattle.def_run.specs.Run.{moves}
use Rattle.tn_program.specs.Views.{program_of}
use Rattle.tn_moves.specs.Plans.{plan_picks}
use Rattle.complete_explain.proofs.OneNote.{if_both}
use Rattle.complete_command.proofs.moves.moves_of_plan.Goals as goal

pub returns : goal.returns
returns g c =
    let p = program_of c.args.first.now in
    let q = program_of c.args.second.now in
    let plan = c.args.plan.now in
    if_both c.moves_of_plan.result c.moves_of_plan-2.result (λ v. v.items ≡ moves p (plan_picks p plan)) (λ v. v.items ≡ moves q (plan_picks q plan)) (λ v w. v.items ≡ w.items)
    (λ v w h i. h ∙ ap (λ r. moves r (plan_picks r plan)) c.requires ∙ sym i) c.moves_of_plan.ensures c.moves_of_plan-2.ensures
