use Rattle.std.proofs.Common.{◌≡◌, drop}
use Rattle.def_term.specs.Tree.{atom}
use Rattle.def_running_node.specs.NodeReplies.{all_are_this}
use Rattle.tn_term.specs.Views.{trees_of}
use Rattle.tn_running_node.proofs.arguments.all_are_this.Given as goal

abbrev pub invariant-loop-item : goal.invariant-loop-item
invariant-loop-item g l = all_are_this (atom l.name) (trees_of (drop l.item-index l.item-items)) ≡ all_are_this (atom l.name) (trees_of l.items.items)
