use Rattle.std.proofs.Common.{ap, ◌∙◌}
use Rattle.std.specs.Option.{option_map}
use Rattle.tn_script.specs.Views.{form_of}
use Rattle.tn_script.proofs.OfTerms.{no_process}
use Rattle.tn_script.proofs.shapes.process_form.Goals as goal

pub returns-in_err-home : goal.returns-in_err-home
returns-in_err-home g c = ap (option_map (form_of {A = g.row.A.Denot})) c.from_residual.ensures ∙ no_process {A = g.row.A.Denot} c.args.fields.items c.in_err-home.ensures
