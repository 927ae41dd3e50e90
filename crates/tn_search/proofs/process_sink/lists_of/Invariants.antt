use Rattle.tn_search.proofs.Gathers.{AreListsUpTo}
use Rattle.tn_search.proofs.process_sink.lists_of.Given as goal

abbrev pub invariant-loop-sink : goal.invariant-loop-sink
invariant-loop-sink g l = AreListsUpTo l.sink-index l.sinks l.lists.items
