use Rattle.std.proofs.Common.{map, sym, ap, ◌∙◌}
use Rattle.std.specs.Option.{option_map}
use Rattle.def_script.specs.Shapes.{name_in, exported_in, params_in, steps_in, function_in}
use Rattle.tn_term.specs.Views.{tree_of}
use Rattle.tn_script.specs.Views.{step_of}
use Rattle.tn_script.specs.Bodies.{body_of}
use Rattle.tn_script.proofs.OfTerms.{no_function}
use Rattle.tn_script.proofs.Functions.{declared, headless, not_declared}
use Rattle.tn_script.proofs.shapes.function_form.Goals as goal

pub returns-in_default : goal.returns-in_default
returns-in_default g c = no_function {A = g.row.A.Denot} c.args.fields.items c.in_default.ensures

pub returns-in_default-function_head : goal.returns-in_default-function_head
returns-in_default-function_head g c =
    headless (name_in (tree_of {A = g.row.A.Denot} c.in-Some.home)) (name_in (tree_of {A = g.row.A.Denot} c.in-Some.function)) (exported_in (tree_of {A = g.row.A.Denot} c.in-Some.visibility)) (params_in (tree_of {A = g.row.A.Denot} c.in-Some.parameters)) (steps_in (tree_of {A = g.row.A.Denot} c.in-Some.body))
    c.in_default-function_head.ensures
    ∙ ap (λ xs. function_in (map (tree_of {A = g.row.A.Denot}) xs)) (sym c.in-Some.ensures)

pub returns-in_default-2 : goal.returns-in_default-2
returns-in_default-2 g c =
    not_declared (name_in (tree_of {A = g.row.A.Denot} c.in-Some.home)) (name_in (tree_of {A = g.row.A.Denot} c.in-Some.function)) (exported_in (tree_of {A = g.row.A.Denot} c.in-Some.visibility)) (params_in (tree_of {A = g.row.A.Denot} c.in-Some.parameters)) (steps_in (tree_of {A = g.row.A.Denot} c.in-Some.body))
    (ap (option_map (body_of {A = g.row.A.Denot})) (sym c.in_default-2.is) ∙ c.in_ok-params.ensures.value)
    ∙ ap (λ xs. function_in (map (tree_of {A = g.row.A.Denot}) xs)) (sym c.in-Some.ensures)

pub returns : goal.returns
returns g c =
    declared (name_in (tree_of {A = g.row.A.Denot} c.in-Some.home)) (name_in (tree_of {A = g.row.A.Denot} c.in-Some.function)) (exported_in (tree_of {A = g.row.A.Denot} c.in-Some.visibility)) (params_in (tree_of {A = g.row.A.Denot} c.in-Some.parameters)) (steps_in (tree_of {A = g.row.A.Denot} c.in-Some.body))
    (c.in-Some-function_head.«module», c.in-Some-function_head.name, c.in-Some-function_head.exported) (c.in-Some-2.params.items, map (step_of {A = g.row.A.Denot}) c.in-Some-2.steps.items)
    c.in-Some-function_head.ensures (ap (option_map (body_of {A = g.row.A.Denot})) (sym c.in-Some-2.is) ∙ c.in_ok-params.ensures.value)
    ∙ ap (λ xs. function_in (map (tree_of {A = g.row.A.Denot}) xs)) (sym c.in-Some.ensures)
