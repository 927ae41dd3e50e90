use Rattle.std.proofs.Common.{ap, ◌∙◌}
use Rattle.std.specs.Option.{option_map}
use Rattle.def_script.specs.Shapes.{remote_call}
use Rattle.tn_script.specs.Views.{step_of}
use Rattle.tn_script.proofs.steps.remote_call.Goals as goal

pub returns-in_err-target : goal.returns-in_err-target
returns-in_err-target g c = ap (option_map (step_of {A = g.row.A.Denot})) c.from_residual.ensures ∙ c.in_err-target.ensures remote_call

pub returns : goal.returns
returns g c = c.in_ok-target.ensures remote_call
