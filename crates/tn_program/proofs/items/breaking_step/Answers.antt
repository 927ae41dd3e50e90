use Rattle.std.proofs.Common.{[], map, sym, ◌∙◌}
use Rattle.tn_program.specs.Declarations.{step_breaks}
use Rattle.tn_script.specs.Views.{step_of, form_of}
use Rattle.tn_program.proofs.Positions.{position_begins, position_found, position_next, position_none}
use Rattle.tn_program.proofs.items.breaking_step.Goals as goal

pub loop-i-init : goal.loop-i-init
loop-i-init g c = position_begins (λ before s. step_breaks c.args.rule (map (form_of {A = g.row.A.Denot}) c.args.forms.now) c.args.of_module.now s) (step_of {A = g.row.A.Denot}) [] c.args.steps.now

pub returns-then-is_against : goal.returns-then-is_against
returns-then-is_against g c =
    position_found (λ before s. step_breaks c.args.rule (map (form_of {A = g.row.A.Denot}) c.args.forms.now) c.args.of_module.now s) (step_of {A = g.row.A.Denot}) [] c.args.steps.now c.loop-i.i c.index-steps-i.result c.loop-i-test.true c.index-steps-i.is (sym c.is_against.ensures ∙ c.if-is_against.true) c.loop-i.invariant

pub loop-i-preserved : goal.loop-i-preserved
loop-i-preserved g c =
    position_next (λ before s. step_breaks c.args.rule (map (form_of {A = g.row.A.Denot}) c.args.forms.now) c.args.of_module.now s) (step_of {A = g.row.A.Denot}) [] c.args.steps.now c.loop-i.i c.index-steps-i.result c.loop-i-test.true c.index-steps-i.is (sym c.is_against.ensures ∙ c.if-is_against.false) c.loop-i.invariant

pub returns : goal.returns
returns g c =
    position_none (λ before s. step_breaks c.args.rule (map (form_of {A = g.row.A.Denot}) c.args.forms.now) c.args.of_module.now s) (step_of {A = g.row.A.Denot}) [] c.args.steps.now c.loop-i.i c.loop-i-test.false c.loop-i.invariant
