use Rattle.def_node.proofs.Limits.{next_keeps, opening_within}
use Rattle.def_node.proofs.limits_are_kept.Goals as goal

pub returns : goal.returns
returns c = record { opening = opening_within; step = λ ks w n in_w. (next_keeps ks w n in_w).0 }
