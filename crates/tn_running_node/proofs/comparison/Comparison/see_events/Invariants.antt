use Rattle.def_script.specs.Exports.{Exports}
use Rattle.def_run.specs.Run.{event_item}
use Rattle.def_running_node.specs.NodeComparisons as definition
use Rattle.tn_flags.specs.Views.{event_of}
use Rattle.tn_node.specs.Outlooks.{outlook_seen}
use Rattle.tn_text.specs.Writes.{Grows}
use Rattle.tn_running_node.specs.Comparisons.{IsComparison}
use Rattle.tn_running_node.proofs.EventLoops.{GoesOn}
use Rattle.tn_running_node.proofs.comparison.Comparison.see_events.Given as goal

abbrev pub invariant-loop-event : goal.invariant-loop-event
invariant-loop-event g l = record {
  grows : Grows l.fn.out.items l.out.items;
  made : (o : Exports) (c : definition.Comparison) → IsComparison o c l.fn.self → GoesOn o (outlook_seen l.outlook) c (λ e. event_item (event_of e)) l.event-items l.event-index l.self l.fn.out l.out l.kinds;
}
