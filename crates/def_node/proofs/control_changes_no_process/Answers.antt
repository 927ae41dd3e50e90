use Rattle.def_node.proofs.Still.{control_still}
use Rattle.def_node.proofs.control_changes_no_process.Goals as goal

pub returns : goal.returns
returns c = control_still
