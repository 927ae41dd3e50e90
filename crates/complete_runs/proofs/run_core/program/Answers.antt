use Rattle.std.proofs.Common.{◌∙◌, sym}
use Rattle.complete_runs.proofs.run_core.program.Goals as goal

pub returns : goal.returns
returns g c = c.program.ensures ∙ c.requires ∙ sym c.program-2.ensures
