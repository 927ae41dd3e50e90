use Rattle.std.proofs.Common.{map, sym, ap, ◌∙◌}
use Rattle.std.specs.Option.{option_map}
use Rattle.def_script.specs.Shapes.{spawn_of, of_callee_in}
use Rattle.tn_term.specs.Views.{tree_of}
use Rattle.tn_script.specs.Views.{step_of}
use Rattle.tn_script.proofs.OfTerms.{no_callee}
use Rattle.tn_script.proofs.steps.spawn_step.Goals as goal

pub returns-in_err-v : goal.returns-in_err-v
returns-in_err-v g c = ap (option_map (step_of {A = g.row.A.Denot})) c.from_residual.ensures ∙ no_callee {A = g.row.A.Denot} spawn_of c.args.fields.items c.in_err-v.ensures

pub returns-in_err-target : goal.returns-in_err-target
returns-in_err-target g c =
    ap (option_map (step_of {A = g.row.A.Denot})) c.from_residual-in_err-target.ensures ∙ c.in_err-target.ensures spawn_of
    ∙ ap (λ xs. of_callee_in spawn_of (map (tree_of {A = g.row.A.Denot}) xs)) (sym c.in_ok-v.ensures)

pub returns : goal.returns
returns g c = c.in_ok-target.ensures spawn_of ∙ ap (λ xs. of_callee_in spawn_of (map (tree_of {A = g.row.A.Denot}) xs)) (sym c.in_ok-v.ensures)
