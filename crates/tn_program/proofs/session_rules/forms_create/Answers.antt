use Rattle.std.proofs.Common.{refl, sym, ◌∙◌}
use Rattle.tn_script.specs.Views.{form_of}
use Rattle.def_script.specs.Rules.{commands_of_form}
use Rattle.tn_program.specs.Commands.{any_creates}
use Rattle.tn_program.proofs.Any.{any_found, any_next, any_none}
use Rattle.tn_program.proofs.session_rules.forms_create.Goals as goal

pub loop-form-init : goal.loop-form-init
loop-form-init g c = refl

pub returns-then-form_creates : goal.returns-then-form_creates
returns-then-form_creates g c =
    any_found (λ f. any_creates c.args.of c.args.name.now (commands_of_form f)) (form_of {A = g.row.A.Denot}) c.args.forms.now c.loop-form.form-index c.form-item.result c.loop-form-test.true c.form-item.is (sym c.form_creates.ensures ∙ c.if-form_creates.true) c.loop-form.invariant

pub loop-form-preserved : goal.loop-form-preserved
loop-form-preserved g c =
    any_next (λ f. any_creates c.args.of c.args.name.now (commands_of_form f)) (form_of {A = g.row.A.Denot}) c.args.forms.now c.loop-form.form-index c.form-item.result c.loop-form-test.true c.form-item.is (sym c.form_creates.ensures ∙ c.if-form_creates.false) c.loop-form.invariant

pub returns : goal.returns
returns g c = any_none (λ f. any_creates c.args.of c.args.name.now (commands_of_form f)) (form_of {A = g.row.A.Denot}) c.args.forms.now c.loop-form.form-index c.loop-form-test.false c.loop-form.invariant
