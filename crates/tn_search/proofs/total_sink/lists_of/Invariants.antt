use Rattle.std.proofs.Common.{◌≡◌, map, take}
use Rattle.tn_messages.specs.MessageViews.{trees_seen}
use Rattle.tn_search.proofs.total_sink.lists_of.Given as goal

abbrev pub invariant-loop-sink : goal.invariant-loop-sink
invariant-loop-sink g l = map trees_seen l.lists.items ≡ map (λ k. trees_seen k.messages) (take l.sink-index l.sinks)
