use Rattle.def_node.proofs.Still.{next_still, next_nothing}
use Rattle.def_node.proofs.idle_changes_nothing.Goals as goal

pub returns : goal.returns
returns c = record { processes = next_still; state = next_nothing }
