use Rattle.std.proofs.Common.{◌∙◌, refl, sym, map}
use Rattle.def_term.specs.Text.{is_among}
use Rattle.tn_program.specs.Variables.{target_names}
use Rattle.tn_script.specs.Views.{step_of}
use Rattle.tn_program.proofs.Any.{any_found, any_next, any_none}
use Rattle.tn_refusal.proofs.RuleReasons.{among_flat}
use Rattle.tn_refusal.proofs.variables.has_target.Goals as goal

pub loop-step-init : goal.loop-step-init
loop-step-init g c = refl

pub returns-then-is_target : goal.returns-then-is_target
returns-then-is_target g c =
    any_found (λ s. is_among (target_names s) c.args.name.now) (step_of {A = g.row.A.Denot}) c.args.steps.now c.loop-step.step-index c.step-item.result c.loop-step-test.true c.step-item.is
    (sym c.is_target.ensures ∙ c.if-is_target.true) c.loop-step.invariant
    ∙ sym (among_flat target_names (map (step_of {A = g.row.A.Denot}) c.args.steps.now) c.args.name.now)

pub loop-step-preserved : goal.loop-step-preserved
loop-step-preserved g c =
    any_next (λ s. is_among (target_names s) c.args.name.now) (step_of {A = g.row.A.Denot}) c.args.steps.now c.loop-step.step-index c.step-item.result c.loop-step-test.true c.step-item.is
    (sym c.is_target.ensures ∙ c.if-is_target.false) c.loop-step.invariant

pub returns : goal.returns
returns g c =
    any_none (λ s. is_among (target_names s) c.args.name.now) (step_of {A = g.row.A.Denot}) c.args.steps.now c.loop-step.step-index c.loop-step-test.false c.loop-step.invariant
    ∙ sym (among_flat target_names (map (step_of {A = g.row.A.Denot}) c.args.steps.now) c.args.name.now)
