use Rattle.std.proofs.Common.{ap, ◌∙◌}
use Rattle.std.specs.Option.{option_map}
use Rattle.def_script.specs.Program.{raise}
use Rattle.tn_flags.specs.Views.{class_of}
use Rattle.tn_script.specs.Views.{step_of}
use Rattle.tn_script.proofs.steps.raise_step.Goals as goal

pub returns-in_err-value : goal.returns-in_err-value
returns-in_err-value g c = ap (option_map (step_of {A = g.row.A.Denot})) c.from_residual.ensures ∙ c.in_err-value.ensures (raise (class_of c.args.class))

pub returns : goal.returns
returns g c = c.in_ok-value.ensures (raise (class_of c.args.class))
