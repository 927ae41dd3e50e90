use Rattle.std.proofs.Common.{refl, sym, ◌∙◌}
use Rattle.def_script.specs.Rules.{declares_one}
use Rattle.tn_script.specs.Views.{form_of}
use Rattle.tn_program.proofs.Any.{any_found, any_next, any_none}
use Rattle.tn_refusal.specs.RuleViews.{callee_seen, declares_so}
use Rattle.tn_refusal.proofs.callee.is_declared.Goals as goal

pub loop-form-init : goal.loop-form-init
loop-form-init g c = refl

pub returns-then-form_declares : goal.returns-then-form_declares
returns-then-form_declares g c =
    any_found (declares_one (declares_so c.args.how (callee_seen c.args.callee.now))) (form_of {A = g.row.A.Denot}) c.args.forms.now c.loop-form.form-index c.form-item.result c.loop-form-test.true c.form-item.is
    (sym c.form_declares.ensures ∙ c.if-form_declares.true) c.loop-form.invariant

pub loop-form-preserved : goal.loop-form-preserved
loop-form-preserved g c =
    any_next (declares_one (declares_so c.args.how (callee_seen c.args.callee.now))) (form_of {A = g.row.A.Denot}) c.args.forms.now c.loop-form.form-index c.form-item.result c.loop-form-test.true c.form-item.is
    (sym c.form_declares.ensures ∙ c.if-form_declares.false) c.loop-form.invariant

pub returns : goal.returns
returns g c = any_none (declares_one (declares_so c.args.how (callee_seen c.args.callee.now))) (form_of {A = g.row.A.Denot}) c.args.forms.now c.loop-form.form-index c.loop-form-test.false c.loop-form.invariant
