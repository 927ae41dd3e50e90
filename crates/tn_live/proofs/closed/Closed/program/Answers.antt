use Rattle.std.proofs.Common.{◌∙◌, ap}
use Rattle.tn_trace.specs.Cores.{CoreValue}
use Rattle.tn_live.proofs.closed.Closed.program.Goals as goal

pub returns : goal.returns
returns g c = c.program.ensures ∙ (ap (λ (v : CoreValue). v.program) c.self.invariant.core)
