use Rattle.tn_program.specs.Views.{program_of}
use Rattle.tn_moves.specs.Plans.{plan_picks}
use Rattle.tn_moves.proofs.Drives.{unbounded}
use Rattle.tn_moves.proofs.course.drive.Goals as goal

pub returns-clause-driven : goal.returns-clause-driven
returns-clause-driven g c =
    let p = program_of c.args.program.now in
    unbounded g.O.Observer.sees g.O.Observer.adds p (plan_picks p c.args.plan.now) c.args.observer c.in_ok-run.run' c.args.out.now c.drive_within.new.out c.in_ok-run.field-0-1 c.in_ok-run.ensures.driven
