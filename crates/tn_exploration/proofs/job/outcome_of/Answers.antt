use Rattle.std.proofs.Common.{◌∙◌}
use Rattle.std.proofs.lemmas.Result.{IfOk-weaker}
use Rattle.tn_program.specs.Views.{program_of}
use Rattle.tn_moves.specs.Plans.{plan_picks}
use Rattle.tn_exploration.specs.Requests.{IsExploration, IsExplorationFrom}
use Rattle.tn_exploration.proofs.Explorations.{asked_exploration}
use Rattle.tn_exploration.proofs.job.outcome_of.Goals as goal

pub returns-in_ok-before-in-Ok : goal.returns-in_ok-before-in-Ok
returns-in_ok-before-in-Ok g c =
    let q = c.args.request.now in
    let p = program_of c.args.program.now in
    let before = c.deref.result.now in
    IfOk-weaker c.exploration_from.result (λ r. IsExplorationFrom q p before r.0 r.1.items) (λ r. IsExploration q p r.0 r.1.items)
    (λ r is. asked_exploration q p before r.0 r.1.items (record { picks = plan_picks p c.in-Ok.plan; given = c.in-Ok.ensures; moved = c.deref.ensures.value ∙ c.in_ok-before-in-Ok.ensures }) is)
    c.exploration_from.ensures
