use Rattle.std.proofs.Common.{refl, sym, ◌∙◌}
use Rattle.tn_script.specs.Views.{form_of}
use Rattle.def_script.specs.Rules.{declares_one}
use Rattle.tn_program.specs.Lookups.{wanted_mfa, passes_as}
use Rattle.tn_program.proofs.Any.{any_found, any_next, any_none}
use Rattle.tn_program.proofs.lookup.any_declares.Goals as goal

pub loop-form-init : goal.loop-form-init
loop-form-init g c = refl

pub returns-then-declares : goal.returns-then-declares
returns-then-declares g c =
    any_found (declares_one (passes_as c.args.sought (wanted_mfa c.args.wanted.now))) (form_of {A = g.row.A.Denot}) c.args.forms.now c.loop-form.form-index c.form-item.result c.loop-form-test.true c.form-item.is (sym c.declares.ensures ∙ c.if-declares.true) c.loop-form.invariant

pub loop-form-preserved : goal.loop-form-preserved
loop-form-preserved g c =
    any_next (declares_one (passes_as c.args.sought (wanted_mfa c.args.wanted.now))) (form_of {A = g.row.A.Denot}) c.args.forms.now c.loop-form.form-index c.form-item.result c.loop-form-test.true c.form-item.is (sym c.declares.ensures ∙ c.if-declares.false) c.loop-form.invariant

pub returns : goal.returns
returns g c = any_none (declares_one (passes_as c.args.sought (wanted_mfa c.args.wanted.now))) (form_of {A = g.row.A.Denot}) c.args.forms.now c.loop-form.form-index c.loop-form-test.false c.loop-form.invariant
