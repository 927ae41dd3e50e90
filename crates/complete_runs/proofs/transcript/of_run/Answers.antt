use Rattle.std.proofs.Common.{◌∙◌, sym}
use Rattle.complete_runs.proofs.transcript.of_run.Goals as goal

pub returns : goal.returns
returns g c = c.of_run-first.ensures g.at.0 g.at.1 g.at.2 c.requires.1.0 ∙ sym (c.of_run-second.ensures g.at.0 g.at.1 g.at.2 c.requires.1.1)
