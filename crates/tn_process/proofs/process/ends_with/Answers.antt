use Rattle.std.proofs.Common.{ap₂, map}
use Rattle.def_term.specs.Tree.{Tree}
use Rattle.def_node.specs.Process.{exits}
use Rattle.tn_flags.specs.Views.{event_of}
use Rattle.tn_process.proofs.process.ends_with.Goals as goal

pub returns : goal.returns
returns g c = λ p. ap₂ (λ (t : Tree) es. exits p.links t (map (event_of {A = g.row.A.Denot}) es)) c.in_ok-word.ensures c.new.ensures.items
