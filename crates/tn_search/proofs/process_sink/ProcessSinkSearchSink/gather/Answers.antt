use Rattle.std.proofs.Common.{ap}
use Rattle.def_explore.specs.Rests.{kept_by_process}
use Rattle.tn_search.proofs.process_sink.ProcessSinkSearchSink.gather.Goals as goal

pub returns : goal.returns
returns g c = λ mss h. ap kept_by_process (c.in_ok-lists_of.ensures mss h)
