use Rattle.std.proofs.Common.{◌≡◌, map, take}
use Rattle.tn_term.specs.SharedTree.{shared_tree}
use Rattle.tn_flags.proofs.arguments.share_arguments.Given as goal

abbrev pub invariant-loop-arg : goal.invariant-loop-arg
invariant-loop-arg g l = map shared_tree l.owned.items ≡ map shared_tree (take l.arg-index l.arg-items)
