use Rattle.std.proofs.Common.{◌≡◌, map, take}
use Rattle.def_compare.specs.Traces.{trace_processes}
use Rattle.tn_term.specs.Views.{tree_of}
use Rattle.tn_comparison.proofs.orders.trace_processes.Given as goal

abbrev pub invariant-loop-message : goal.invariant-loop-message
invariant-loop-message g l = l.processes.items ≡ trace_processes (map tree_of (take l.message-index l.messages))
