use Rattle.std.proofs.Common.{ap, ◌∙◌}
use Rattle.std.specs.Option.{option_map}
use Rattle.tn_script.specs.Views.{step_of}
use Rattle.tn_script.proofs.OfTerms.{no_send}
use Rattle.tn_script.proofs.steps.send_step.Goals as goal

pub returns-in_err-to : goal.returns-in_err-to
returns-in_err-to g c = ap (option_map (step_of {A = g.row.A.Denot})) c.from_residual.ensures ∙ no_send {A = g.row.A.Denot} c.args.fields.items c.in_err-to.ensures
