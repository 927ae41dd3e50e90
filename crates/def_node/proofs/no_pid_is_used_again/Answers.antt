use Rattle.def_node.proofs.Limits.{next_keeps}
use Rattle.def_node.proofs.no_pid_is_used_again.Goals as goal

pub returns : goal.returns
returns c = λ ks w n in_w. (next_keeps ks w n in_w).1
