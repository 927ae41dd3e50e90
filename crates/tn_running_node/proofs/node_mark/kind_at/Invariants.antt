use Rattle.std.proofs.Common.{◌≡◌, drop, map}
use Rattle.def_running_node.specs.NodeSessions.{kind_at}
use Rattle.tn_running_node.specs.Views.{node_mark_seen}
use Rattle.tn_running_node.proofs.node_mark.kind_at.Given as goal

abbrev pub invariant-loop-mark : goal.invariant-loop-mark
invariant-loop-mark g l = kind_at (map node_mark_seen (drop l.mark-index l.marks)) l.pid l.depth ≡ kind_at (map node_mark_seen l.marks) l.pid l.depth
