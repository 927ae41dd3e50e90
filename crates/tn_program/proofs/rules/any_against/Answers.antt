use Rattle.std.proofs.Common.{map, refl, sym, ◌∙◌}
use Rattle.tn_program.specs.Declarations.{step_breaks}
use Rattle.tn_script.specs.Views.{step_of, form_of}
use Rattle.tn_program.proofs.Any.{any_found, any_next, any_none}
use Rattle.tn_program.proofs.rules.any_against.Goals as goal

pub loop-step-init : goal.loop-step-init
loop-step-init g c = refl

pub returns-then-is_against : goal.returns-then-is_against
returns-then-is_against g c =
    any_found (step_breaks c.args.rule (map (form_of {A = g.row.A.Denot}) c.args.forms.now) c.args.of_module.now) (step_of {A = g.row.A.Denot}) c.args.steps.now c.loop-step.step-index c.step-item.result c.loop-step-test.true c.step-item.is (sym c.is_against.ensures ∙ c.if-is_against.true) c.loop-step.invariant

pub loop-step-preserved : goal.loop-step-preserved
loop-step-preserved g c =
    any_next (step_breaks c.args.rule (map (form_of {A = g.row.A.Denot}) c.args.forms.now) c.args.of_module.now) (step_of {A = g.row.A.Denot}) c.args.steps.now c.loop-step.step-index c.step-item.result c.loop-step-test.true c.step-item.is (sym c.is_against.ensures ∙ c.if-is_against.false) c.loop-step.invariant

pub returns : goal.returns
returns g c = any_none (step_breaks c.args.rule (map (form_of {A = g.row.A.Denot}) c.args.forms.now) c.args.of_module.now) (step_of {A = g.row.A.Denot}) c.args.steps.now c.loop-step.step-index c.loop-step-test.false c.loop-step.invariant
