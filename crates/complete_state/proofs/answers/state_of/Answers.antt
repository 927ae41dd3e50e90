use Rattle.std.proofs.Common.{rules}
use Rattle.complete_state.proofs.OneState.{one_answer}
use Rattle.tn_moves.specs.Plans.{plan_picks}
use Rattle.tn_program.specs.Views.{program_of}
use Rattle.complete_state.proofs.answers.state_of.Goals as goal

pub returns : goal.returns
returns g c =
    let p = program_of c.args.program.now in
    search (rules, one_answer p (plan_picks p c.args.plan.now) c.args.question.now)
