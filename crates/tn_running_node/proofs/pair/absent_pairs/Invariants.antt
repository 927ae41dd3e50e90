use Rattle.std.proofs.Common.{◌≡◌, ◌++◌, length}
use Rattle.std.specs.Option.{option_map}
use Rattle.std.specs.Vec.Iter.{into_iter_items, into_iter_len}
use Rattle.tn_running_node.specs.Pairs.{absent_pairs}
use Rattle.tn_running_node.proofs.pair.absent_pairs.Given as goal

abbrev pub invariant-loop-slot : goal.invariant-loop-slot
invariant-loop-slot g l = record {
  rest : l.yielded ++ into_iter_items l.slot-iterator ≡ into_iter_items l.initial.slot-iterator;
  size : into_iter_len l.slot-iterator ≡ length (into_iter_items l.slot-iterator);
  made : l.pairs.items ≡ absent_pairs (option_map (λ s. s.now) l.session) l.yielded;
}
