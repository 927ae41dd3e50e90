use Rattle.tn_program.specs.Views.{program_of}
use Rattle.tn_moves.specs.Plans.{plan_picks}
use Rattle.tn_picture.proofs.job.outcome_of.Goals as goal

pub returns-in_ok-picture_text-in-Ok : goal.returns-in_ok-picture_text-in-Ok
returns-in_ok-picture_text-in-Ok g c = record { picks = plan_picks (program_of c.args.program.now) c.in-Ok.plan; given = c.in-Ok.ensures; drawing = c.in_ok-picture_text-in-Ok.ensures }
