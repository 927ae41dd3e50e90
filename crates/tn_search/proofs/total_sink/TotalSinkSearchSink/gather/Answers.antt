use Rattle.std.proofs.Common.{◌∙◌, ap}
use Rattle.def_explore.specs.Rests.{kept_messages}
use Rattle.tn_search.proofs.Gathers.{all_of_each}
use Rattle.tn_search.proofs.total_sink.TotalSinkSearchSink.gather.Goals as goal

pub returns : goal.returns
returns g c = λ mss h. ap kept_messages (c.in_ok-lists_of.ensures ∙ all_of_each mss c.args.sinks.now h)
