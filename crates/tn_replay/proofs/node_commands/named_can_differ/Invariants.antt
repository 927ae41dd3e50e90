use Rattle.std.proofs.Common.{◌≡◌, ◌≤◌, Some, drop, length}
use Rattle.def_spec.specs.Flags.{Flags, flags_named}
use Rattle.def_explain.specs.NodeCommands.{flags_can_differ}
use Rattle.tn_term.specs.Views.{tree_of}
use Rattle.tn_term.proofs.Trees.{seen}
use Rattle.tn_replay.proofs.node_commands.named_can_differ.Given as goal

abbrev pub invariant-loop-left : goal.invariant-loop-left
invariant-loop-left g l =
    (l.left ≤ length l.items.items) × ((f : Flags) × (flags_named (seen tree_of (drop l.left l.items.items)) ≡ Some f) × (l.differs ≡ flags_can_differ f))

abbrev pub decreases-loop-left : goal.decreases-loop-left
decreases-loop-left g l = l.left
