use Rattle.std.proofs.Common.{◌-◌, ◌^◌, min, map, ap, sym, ◌∙◌}
use Rattle.std.specs.List.{count_by}
use Rattle.def_script.specs.Rules.{commands_of_form, is_creation}
use Rattle.tn_script.specs.Views.{form_of}
use Rattle.tn_program.proofs.Totals.{total_next, total_all, count_flat}
use Rattle.tn_program.proofs.counts.all_creations.Goals as goal

pub loop-form-preserved : goal.loop-form-preserved
loop-form-preserved g c =
    total_next (λ y. count_by is_creation (commands_of_form y)) (form_of {A = g.row.A.Denot}) c.args.forms.now c.loop-form.form-index c.form-item.result (2 ^ 64 - 1) c.loop-form.total c.form_creations.result c.saturating_add-total.result c.loop-form-test.true c.form-item.is c.form_creations.ensures c.saturating_add-total.ensures c.loop-form.invariant

pub returns : goal.returns
returns g c =
    total_all (λ y. count_by is_creation (commands_of_form y)) (form_of {A = g.row.A.Denot}) c.args.forms.now c.loop-form.form-index c.loop-form.total (2 ^ 64 - 1) c.loop-form-test.false c.loop-form.invariant
    ∙ ap (λ n. min n (2 ^ 64 - 1)) (sym (count_flat is_creation commands_of_form (map (form_of {A = g.row.A.Denot}) c.args.forms.now)))
