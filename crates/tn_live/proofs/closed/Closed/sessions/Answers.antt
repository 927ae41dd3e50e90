use Rattle.std.proofs.Common.{◌∙◌, ap}
use Rattle.def_script.specs.Program.{Program}
use Rattle.tn_trace.specs.Cores.{CoreValue}
use Rattle.def_script.specs.Script.{creations}
use Rattle.tn_live.proofs.closed.Closed.sessions.Goals as goal

pub returns : goal.returns
returns g c = c.sessions.ensures ∙ ap (λ (p : Program). creations p.commands) (ap (λ (v : CoreValue). v.program) c.self.invariant.core)
