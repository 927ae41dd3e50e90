use Rattle.std.proofs.Common.{map, ap, ◌∙◌}
use Rattle.tn_term.specs.Views.{tree_of}
use Rattle.def_script.specs.Rules.{any_has_other}
use Rattle.tn_program.proofs.variables.has_variable.Goals as goal

pub returns : goal.returns
returns g c = c.args_unbound.ensures ∙ ap (λ ns. any_has_other ns (map (tree_of {A = g.row.A.Denot}) c.args.terms.now.items)) (ap (map (λ e. e.0.now)) c.new-none.ensures.empty)
