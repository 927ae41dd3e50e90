use Rattle.std.proofs.Common.{ap, ◌∙◌}
use Rattle.std.specs.Option.{option_map}
use Rattle.tn_script.specs.Views.{step_of}
use Rattle.tn_script.proofs.OfTerms.{no_receive}
use Rattle.tn_script.proofs.steps.receive_step.Goals as goal

pub returns-in_err-v : goal.returns-in_err-v
returns-in_err-v g c = ap (option_map (step_of {A = g.row.A.Denot})) c.from_residual.ensures ∙ no_receive {A = g.row.A.Denot} c.args.fields.items c.in_err-v.ensures
