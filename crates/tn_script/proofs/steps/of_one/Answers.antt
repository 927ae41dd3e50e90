use Rattle.std.proofs.Common.{ap, ◌∙◌}
use Rattle.std.specs.Option.{option_map}
use Rattle.tn_term.specs.Views.{tree_of}
use Rattle.tn_script.proofs.OfTerms.{no_one}
use Rattle.tn_script.proofs.steps.of_one.Goals as goal

pub returns-in_err-only : goal.returns-in_err-only
returns-in_err-only g c = λ f. ap (option_map (λ t. f (tree_of {A = g.row.A.Denot} t))) c.from_residual.ensures ∙ no_one {A = g.row.A.Denot} f c.args.fields.items c.in_err-only.ensures
