use Rattle.tn_program.specs.Views.{program_of}
use Rattle.tn_moves.specs.Plans.{plan_picks}
use Rattle.tn_replay.proofs.run_remarks.schedule_moves.Goals as goal

pub returns-in-Ok-moves_of_plan : goal.returns-in-Ok-moves_of_plan
returns-in-Ok-moves_of_plan g c = record { picks = plan_picks (program_of c.args.program.now) c.in-Ok-plan.plan; given = c.in-Ok-plan.ensures; moved = c.in-Ok-moves_of_plan.ensures }
