use Rattle.std.proofs.Common.{◌-◌, ◌^◌, cond, lit<}
use Rattle.def_script.specs.Rules.{is_function}
use Rattle.tn_script.specs.Views.{form_of}
use Rattle.tn_program.proofs.Totals.{total_next, total_all, one_fits}
use Rattle.tn_program.proofs.counts.function_total.Goals as goal

pub loop-form-preserved : goal.loop-form-preserved
loop-form-preserved g c =
    total_next (λ y. cond (is_function y) 1 0) (form_of {A = g.row.A.Denot}) c.args.forms.now c.loop-form.form-index c.form-item.result (2 ^ 64 - 1) c.loop-form.total c.functions_in.result c.saturating_add-total.result c.loop-form-test.true c.form-item.is (one_fits (is_function ((form_of {A = g.row.A.Denot}) c.form-item.result)) c.functions_in.result (2 ^ 64 - 1) (lit< tt) c.functions_in.ensures) c.saturating_add-total.ensures c.loop-form.invariant

pub returns : goal.returns
returns g c =
    total_all (λ y. cond (is_function y) 1 0) (form_of {A = g.row.A.Denot}) c.args.forms.now c.loop-form.form-index c.loop-form.total (2 ^ 64 - 1) c.loop-form-test.false c.loop-form.invariant
