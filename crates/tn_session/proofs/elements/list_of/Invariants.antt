use Rattle.std.proofs.Common.{◌≡◌, map, take}
use Rattle.tn_term.specs.SharedTree.{shared_tree}
use Rattle.tn_term.specs.Views.{tree_of}
use Rattle.tn_session.proofs.elements.list_of.Given as goal

abbrev pub invariant-loop-arg : goal.invariant-loop-arg
invariant-loop-arg g l = map tree_of l.copies.items ≡ map shared_tree (take l.arg-index l.arg-items)
