use Rattle.tn_program.specs.Views.{program_of}
use Rattle.tn_moves.specs.Plans.{plan_picks}
use Rattle.tn_explain.proofs.Explanations.{explained_by}
use Rattle.tn_explain.proofs.job.explanation.Goals as goal

pub returns-in-Ok : goal.returns-in-Ok
returns-in-Ok g c =
    let p = program_of c.args.program.now in
    explained_by c.args.request.now p (plan_picks p c.in-Ok.plan) c.account_of.result c.in-Ok.ensures c.account_of.ensures
