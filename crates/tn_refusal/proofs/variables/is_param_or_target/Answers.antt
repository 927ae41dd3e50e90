use Rattle.std.proofs.Common.{◌∙◌, ◌||◌, map, sym, ap}
use Rattle.def_term.specs.Text.{is_among}
use Rattle.tn_script.specs.Views.{step_of}
use Rattle.tn_refusal.specs.RuleViews.{targets_of_steps}
use Rattle.tn_refusal.proofs.RuleReasons.{among_append}
use Rattle.tn_refusal.proofs.variables.is_param_or_target.Goals as goal

pub returns-then-has_param : goal.returns-then-has_param
returns-then-has_param g c =
    let ts = targets_of_steps (map (step_of {A = g.row.A.Denot}) c.args.steps.now) in
    c.if-has_param.true ∙ sym (among_append c.args.params.now ts c.args.name.now ∙ ap (λ b. b || is_among ts c.args.name.now) (sym c.has_param.ensures ∙ c.if-has_param.true))

pub returns-else-has_param : goal.returns-else-has_param
returns-else-has_param g c =
    let ts = targets_of_steps (map (step_of {A = g.row.A.Denot}) c.args.steps.now) in
    c.has_target.ensures ∙ sym (among_append c.args.params.now ts c.args.name.now ∙ ap (λ b. b || is_among ts c.args.name.now) (sym c.has_param.ensures ∙ c.if-has_param.false))
