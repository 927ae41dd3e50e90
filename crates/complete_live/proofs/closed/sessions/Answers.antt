use Rattle.std.proofs.Common.{◌∙◌, sym, ap}
use Rattle.def_script.specs.Program.{Program}
use Rattle.def_script.specs.Script.{creations}
use Rattle.complete_live.proofs.closed.sessions.Goals as goal

pub returns : goal.returns
returns g c = c.sessions.ensures ∙ ap (λ (p : Program). creations p.commands) c.requires ∙ sym c.sessions-2.ensures
