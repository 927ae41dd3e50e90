use Rattle.std.proofs.Common.{◌-◌, ◌^◌, min, map, length, ap, sym, ◌∙◌}
use Rattle.def_script.specs.Rules.{commands_of_form}
use Rattle.tn_script.specs.Views.{form_of}
use Rattle.tn_program.proofs.Totals.{total_next, total_all, length_flat}
use Rattle.tn_program.proofs.counts.all_commands.Goals as goal

pub loop-form-preserved : goal.loop-form-preserved
loop-form-preserved g c =
    total_next (λ y. length (commands_of_form y)) (form_of {A = g.row.A.Denot}) c.args.forms.now c.loop-form.form-index c.form-item.result (2 ^ 64 - 1) c.loop-form.total c.form_commands.result c.saturating_add-total.result c.loop-form-test.true c.form-item.is c.form_commands.ensures c.saturating_add-total.ensures c.loop-form.invariant

pub returns : goal.returns
returns g c =
    total_all (λ y. length (commands_of_form y)) (form_of {A = g.row.A.Denot}) c.args.forms.now c.loop-form.form-index c.loop-form.total (2 ^ 64 - 1) c.loop-form-test.false c.loop-form.invariant
    ∙ ap (λ n. min n (2 ^ 64 - 1)) (sym (length_flat commands_of_form (map (form_of {A = g.row.A.Denot}) c.args.forms.now)))
