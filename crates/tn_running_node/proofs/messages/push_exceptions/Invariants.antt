use Rattle.std.proofs.Common.{◌≡◌, ◌++◌, ◌-◌, length, take, map}
use Rattle.def_term.specs.Text.{w}
use Rattle.def_running_node.specs.NodeRuns.{exceptions_of}
use Rattle.tn_term.specs.Views.{tree_of}
use Rattle.tn_running_node.specs.Views.{lines_seen, node_mark_seen}
use Rattle.tn_running_node.proofs.messages.push_exceptions.Given as goal

abbrev pub invariant-loop-above : goal.invariant-loop-above
invariant-loop-above g l =
    lines_seen l.lines ++ map w (exceptions_of (map node_mark_seen (take (length l.marks - l.above) l.marks)) l.pid (tree_of l.reason))
    ≡ lines_seen l.fn.lines ++ map w (exceptions_of (map node_mark_seen l.marks) l.pid (tree_of l.reason))
