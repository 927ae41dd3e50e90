use Rattle.std.proofs.Common.{◌≡◌, drop, map}
use Rattle.def_running_node.specs.NodeRuns.{signal_of}
use Rattle.tn_running_node.specs.Views.{signal_seen}
use Rattle.tn_running_node.proofs.signals.signal_of.Given as goal

abbrev pub invariant-loop-signal : goal.invariant-loop-signal
invariant-loop-signal l = signal_of (map signal_seen (drop l.signal-index l.signals)) l.pid ≡ signal_of (map signal_seen l.signals) l.pid
