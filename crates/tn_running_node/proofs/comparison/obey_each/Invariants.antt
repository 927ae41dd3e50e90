use Rattle.std.proofs.Common.{◌≡◌, List, length}
use Rattle.def_script.specs.Exports.{Exports, visible}
use Rattle.def_running_node.specs.NodeComparisons as definition
use Rattle.def_running_node.specs.NodeComparisons.{pair_after_command}
use Rattle.tn_term.specs.Views.{alive_of}
use Rattle.tn_flags.specs.Views.{command_of}
use Rattle.tn_script.specs.Views.{functions_of}
use Rattle.tn_text.specs.Writes.{Grows}
use Rattle.tn_trace.specs.Slots.{EachPair}
use Rattle.tn_running_node.specs.Comparisons.{command_lines_at}
use Rattle.tn_running_node.specs.Pairs.{IsPair}
use Rattle.tn_running_node.specs.Views.{node_run_seen}
use Rattle.tn_running_node.proofs.PairLoops.{IsHalfway}
use Rattle.tn_running_node.proofs.comparison.obey_each.Given as goal

abbrev pub invariant-loop-place : goal.invariant-loop-place
invariant-loop-place g l = record {
  size : length l.pairs.items ≡ length l.fn.pairs.items;
  grows : Grows l.fn.out.items l.out.items;
  made : (o : Exports) (cs : List definition.SessionPair) → o.functions ≡ visible (functions_of l.functions) → EachPair (IsPair o (alive_of l.run.alive)) cs l.fn.pairs.items
      → IsHalfway (λ c t. IsPair o (alive_of l.run.alive) (pair_after_command o (node_run_seen l.run) c (command_of l.command)) t) (IsPair o (alive_of l.run.alive)) (command_lines_at o l.run (command_of l.command)) cs l.place l.pairs.items l.fn.out l.out l.kinds;
}
