use Rattle.std.proofs.Common.{◌≡◌, ◌++◌, filter, map, length}
use Rattle.std.specs.Vec.Iter.{into_iter_items, into_iter_len}
use Rattle.def_compare.specs.Traces.{has_message}
use Rattle.tn_renaming.specs.Pairs.{lent_terms_seen}
use Rattle.tn_comparison.proofs.lists.lists_with_messages.Given as goal

abbrev pub invariant-loop-list : goal.invariant-loop-list
invariant-loop-list g l = record {
  rest : l.yielded ++ into_iter_items l.list-iterator ≡ into_iter_items l.initial.list-iterator;
  size : into_iter_len l.list-iterator ≡ length (into_iter_items l.list-iterator);
  made : map lent_terms_seen l.lists.items ≡ filter has_message (map lent_terms_seen l.yielded);
}
