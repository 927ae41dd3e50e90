use Rattle.std.proofs.Common.{◌≡◌, List, length}
use Rattle.def_term.specs.Alive.{Alive}
use Rattle.def_script.specs.Exports.{Exports}
use Rattle.def_session.specs.State.{alive_after}
use Rattle.def_running_node.specs.NodeComparisons as definition
use Rattle.tn_flags.specs.Views.{event_of}
use Rattle.tn_text.specs.Writes.{Grows}
use Rattle.tn_trace.specs.Slots.{EachPair}
use Rattle.tn_running_node.specs.Comparisons.{after_event, lines_at}
use Rattle.tn_running_node.specs.Pairs.{IsPair}
use Rattle.tn_running_node.proofs.PairLoops.{IsHalfway}
use Rattle.tn_running_node.proofs.comparison.see_each.Given as goal

abbrev pub invariant-loop-place : goal.invariant-loop-place
invariant-loop-place g l = record {
  size : length l.pairs.items ≡ length l.fn.pairs.items;
  grows : Grows l.fn.out.items l.out.items;
  made : (o : Exports) (living : Alive) (cs : List definition.SessionPair) → EachPair (IsPair o living) cs l.fn.pairs.items
      → IsHalfway (λ c t. IsPair o (alive_after living (event_of l.event)) (after_event l.step (event_of l.event) c) t) (IsPair o living) (lines_at l.step (event_of l.event)) cs l.place l.pairs.items l.fn.out l.out l.kinds;
}
