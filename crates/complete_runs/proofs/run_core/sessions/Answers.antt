use Rattle.std.proofs.Common.{◌∙◌, sym, ap}
use Rattle.def_script.specs.Program.{Program}
use Rattle.def_script.specs.Script.{creations}
use Rattle.complete_runs.proofs.run_core.sessions.Goals as goal

pub returns : goal.returns
returns g c = c.sessions.ensures ∙ ap (λ (p : Program). creations p.commands) c.requires ∙ sym c.sessions-2.ensures
