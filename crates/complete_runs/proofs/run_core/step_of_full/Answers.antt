use Rattle.complete_runs.proofs.SameSteps.{step_of_full}
use Rattle.complete_runs.proofs.run_core.step_of_full.Goals as goal

pub returns-clause-fault : goal.returns-clause-fault
returns-clause-fault g c = (step_of_full c.args.core.now.program c.args.core.now.journal c.args.pick c.step.new.self c.step.result c.requires c.step.ensures.step).0

pub returns-clause-same : goal.returns-clause-same
returns-clause-same g c = (step_of_full c.args.core.now.program c.args.core.now.journal c.args.pick c.step.new.self c.step.result c.requires c.step.ensures.step).1
