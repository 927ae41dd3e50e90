use Rattle.std.proofs.Common.{ap, sym}
use Rattle.def_spec.specs.Reading.{head_of}
use Rattle.tn_spec.specs.Views.{head_seen}
use Rattle.complete_specs.proofs.Readings.{read_alike}
use Rattle.complete_specs.proofs.head.head.Goals as goal

pub returns : goal.returns
returns g c = read_alike head_seen _ _ c.head.result c.head-2.result (ap head_of (sym c.requires)) c.head.ensures c.head-2.ensures
