use Rattle.std.proofs.Common.{map, ◌∙◌}
use Rattle.tn_term.specs.Views.{tree_of}
use Rattle.tn_program.specs.Variables.{names_in}
use Rattle.tn_program.proofs.BoundVariables.{all_of}
use Rattle.tn_program.proofs.variables.args_unbound.Goals as goal

pub returns : goal.returns
returns g c = c.any_unbound.ensures ∙ all_of (names_in c.args.bound.now) (map (tree_of {A = g.row.A.Denot}) c.args.terms.now.items)
