use Rattle.def_node.proofs.KnownPids.{next_known}
use Rattle.def_node.proofs.events_are_of_the_run.Goals as goal

pub returns : goal.returns
returns c = next_known
