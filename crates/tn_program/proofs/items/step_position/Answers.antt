use Rattle.std.proofs.Common.{[], map, sym, ap, ◌∙◌}
use Rattle.tn_script.specs.Views.{form_of, function_of, step_of}
use Rattle.tn_program.specs.declared.rules.StepRule.TheVariants.{Undeclared, Internal, Misnamed}
use Rattle.tn_program.specs.Declarations.{step_breaks}
use Rattle.tn_program.specs.Faults.{rule_of}
use Rattle.tn_program.specs.Items.{position_in_steps, position_of_rule}
use Rattle.tn_program.proofs.Positions.{nowhere}
use Rattle.tn_program.proofs.items.step_position.Goals as goal

pub returns-in-Undeclared : goal.returns-in-Undeclared
returns-in-Undeclared g c =
    let fs = map (form_of {A = g.row.A.Denot}) c.args.forms.now in
    c.breaking_step.ensures
    ∙ ap (λ m. position_in_steps (step_breaks Undeclared fs m) (map (step_of {A = g.row.A.Denot}) c.deref.result.now)) c.text-of_module.ensures.text
    ∙ ap (λ xs. position_in_steps (step_breaks Undeclared fs c.args.function.now.module) (map (step_of {A = g.row.A.Denot}) xs)) c.deref.ensures.value
    ∙ ap (λ r. position_of_rule fs (function_of {A = g.row.A.Denot} c.args.function.now) (rule_of r)) (sym c.in-Undeclared.is)

pub returns-in-NotExported : goal.returns-in-NotExported
returns-in-NotExported g c =
    let fs = map (form_of {A = g.row.A.Denot}) c.args.forms.now in
    c.breaking_step-in-NotExported.ensures
    ∙ ap (λ m. position_in_steps (step_breaks Internal fs m) (map (step_of {A = g.row.A.Denot}) c.deref-in-NotExported.result.now)) c.text-of_module.ensures.text
    ∙ ap (λ xs. position_in_steps (step_breaks Internal fs c.args.function.now.module) (map (step_of {A = g.row.A.Denot}) xs)) c.deref-in-NotExported.ensures.value
    ∙ ap (λ r. position_of_rule fs (function_of {A = g.row.A.Denot} c.args.function.now) (rule_of r)) (sym c.in-NotExported.is)

pub returns-in-Arity : goal.returns-in-Arity
returns-in-Arity g c =
    let fs = map (form_of {A = g.row.A.Denot}) c.args.forms.now in
    c.breaking_step-in-Arity.ensures
    ∙ ap (λ m. position_in_steps (step_breaks Misnamed fs m) (map (step_of {A = g.row.A.Denot}) c.deref-in-Arity.result.now)) c.text-of_module.ensures.text
    ∙ ap (λ xs. position_in_steps (step_breaks Misnamed fs c.args.function.now.module) (map (step_of {A = g.row.A.Denot}) xs)) c.deref-in-Arity.ensures.value
    ∙ ap (λ r. position_of_rule fs (function_of {A = g.row.A.Denot} c.args.function.now) (rule_of r)) (sym c.in-Arity.is)

pub returns-in-Duplicate : goal.returns-in-Duplicate
returns-in-Duplicate g c =
    let fs = map (form_of {A = g.row.A.Denot}) c.args.forms.now in
    let k = function_of {A = g.row.A.Denot} c.args.function.now in
    sym (ap (λ r. position_of_rule fs k (rule_of r)) c.in-Duplicate.is ∙ nowhere [] k.steps 1)

pub returns-in-TracerTaken : goal.returns-in-TracerTaken
returns-in-TracerTaken g c =
    let fs = map (form_of {A = g.row.A.Denot}) c.args.forms.now in
    let k = function_of {A = g.row.A.Denot} c.args.function.now in
    sym (ap (λ r. position_of_rule fs k (rule_of r)) c.in-TracerTaken.is ∙ nowhere [] k.steps 1)
