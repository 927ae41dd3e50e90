use Rattle.std.proofs.Common.{ap, ◌∙◌}
use Rattle.std.specs.Option.{option_map}
use Rattle.def_script.specs.Program.{unlink}
use Rattle.tn_script.specs.Views.{step_of}
use Rattle.tn_script.proofs.steps.unlink_step.Goals as goal

pub returns-in_err-other : goal.returns-in_err-other
returns-in_err-other g c = ap (option_map (step_of {A = g.row.A.Denot})) c.from_residual.ensures ∙ c.in_err-other.ensures unlink

pub returns : goal.returns
returns g c = c.in_ok-other.ensures unlink
