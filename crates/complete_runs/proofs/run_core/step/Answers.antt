use Rattle.complete_runs.proofs.SameSteps.{same_step}
use Rattle.complete_runs.proofs.run_core.step.Goals as goal

pub returns : goal.returns
returns g c =
    same_step c.args.one.now.program c.args.one.now.journal c.args.pick _ _ _ _ c.step-first.ensures.step c.step-first.ensures.spent
    (rw (← c.requires) at c.step-second.ensures.step) (rw (← c.requires) at c.step-second.ensures.spent)
