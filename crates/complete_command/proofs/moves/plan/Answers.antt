use Rattle.std.proofs.Common.{sym, subst}
use Rattle.tn_program.specs.Views.{program_of}
use Rattle.tn_moves.specs.Plans.{IsPlanFor}
use Rattle.tn_moves.specs.Schedules.{schedule_seen}
use Rattle.complete_command.proofs.SameMoves.{one_plan}
use Rattle.complete_command.proofs.moves.plan.Goals as goal

pub returns : goal.returns
returns g c =
    let a = schedule_seen c.args.schedule.now in
    one_plan a (program_of c.args.first.now) c.plan.result c.plan-2.result c.plan.ensures (subst (λ p. IsPlanFor a p c.plan-2.result) (sym c.requires.same) c.plan-2.ensures)
