use Rattle.std.proofs.Common.{◌∙◌, ap, map, arith}
use Rattle.std.proofs.lemmas.List.{take_all}
use Rattle.tn_messages.specs.MessageViews.{trees_seen}
use Rattle.tn_search.specs.declared.total_sink.TotalSink.{TotalSink}
use Rattle.tn_search.proofs.total_sink.lists_of.Goals as goal

pub returns : goal.returns
returns g c =
    let s = c.loop-sink in
    s.invariant ∙ ap (map (λ (k : TotalSink g.row.A.Denot). trees_seen k.messages)) (take_all s.sink-index c.args.sinks.now (omega arith))
