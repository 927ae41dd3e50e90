use Rattle.tn_program.specs.Views.{program_of}
use Rattle.tn_moves.specs.Plans.{plan_picks}
use Rattle.tn_state.proofs.Fronts.{shown_by}
use Rattle.tn_state.proofs.job.shown_state.Goals as goal

pub returns-in-Ok : goal.returns-in-Ok
returns-in-Ok g c =
    let p = program_of c.args.program.now in
    shown_by c.args.request.now p (plan_picks p c.in-Ok.plan) c.state_of.result c.in-Ok.ensures c.state_of.ensures
