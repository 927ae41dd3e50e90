use Rattle.def_independence.proofs.OwnSteps.{own_steps_alone}
use Rattle.def_independence.proofs.own_steps_go_alone.Goals as goal

pub returns : goal.returns
returns c = own_steps_alone
