use Rattle.complete_node.proofs.Same.{same_steps, spent_fails}
use Rattle.complete_node.proofs.node.step.Goals as goal

pub returns-clause-answer : goal.returns-clause-answer
returns-clause-answer g c = same_steps c.args.pick _ _ _ _ c.requires c.step-first.ensures.moved c.step-second.ensures.moved

pub returns-clause-spent : goal.returns-clause-spent
returns-clause-spent g c spent = spent_fails c.args.pick _ _ spent c.step-first.ensures.moved
