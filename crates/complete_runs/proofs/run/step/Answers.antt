use Rattle.tn_program.specs.Views.{program_of}
use Rattle.complete_runs.proofs.ObservedRuns.{one_more_alike}
use Rattle.complete_runs.proofs.run.step.Goals as goal

pub returns : goal.returns
returns g c =
    one_more_alike g.O.Observer.sees g.O.Observer.adds (program_of c.args.program.now) g.at.0 g.at.1 c.args.pick _ _ _ _ _ _ _ _ _ _ c.requires.1.1.1.1.0 c.requires.1.1.1.1.1
    (c.step-came.ensures.taken g.at.0 g.at.1 c.requires.1.1.1.1.0) (c.step-came_again.ensures.taken g.at.0 g.at.1 c.requires.1.1.1.1.1)
