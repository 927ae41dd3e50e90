use Rattle.std.proofs.Common.{refl}
use Rattle.tn_script.specs.Views.{form_of}
use Rattle.tn_refusal.specs.RuleViews.{creates_in_role}
use Rattle.tn_refusal.proofs.RuleReasons.{form_found, form_next, form_none}
use Rattle.tn_refusal.proofs.sessions.created_before.Goals as goal

pub loop-form-init : goal.loop-form-init
loop-form-init g c = refl

pub returns-in-Some : goal.returns-in-Some
returns-in-Some g c =
    form_found (creates_in_role c.args.role c.args.name.now) (form_of {A = g.row.A.Denot}) c.args.forms.now c.loop-form.form-index c.form-item.result c.in-Some.session.now c.loop-form-test.true c.form-item.is c.in-Some.ensures c.loop-form.invariant

pub loop-form-preserved : goal.loop-form-preserved
loop-form-preserved g c =
    form_next (creates_in_role c.args.role c.args.name.now) (form_of {A = g.row.A.Denot}) c.args.forms.now c.loop-form.form-index c.form-item.result c.loop-form-test.true c.form-item.is c.in-None.ensures c.loop-form.invariant

pub returns : goal.returns
returns g c = form_none (creates_in_role c.args.role c.args.name.now) (form_of {A = g.row.A.Denot}) c.args.forms.now c.loop-form.form-index c.loop-form-test.false c.loop-form.invariant
