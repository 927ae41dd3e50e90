use Rattle.std.proofs.Common.{◌≡◌, ◌≤◌, length, map, ap, sym, ◌∙◌, arith}
use Rattle.std.proofs.lemmas.List.{length-map}
use Rattle.def_script.specs.Rules.{function_of_form, entry_of_form, commands_of_form, form_functions, entries_of, commands_of}
use Rattle.tn_flags.specs.Views.{command_of}
use Rattle.tn_script.specs.Views.{function_of, functions_of, entry_of, form_of}
use Rattle.tn_program.proofs.First.{few_processes}
use Rattle.tn_program.proofs.FormParts.{gathered_all, same_parts}
use Rattle.tn_program.proofs.gather.gather.Goals as goal

pub invariant_of-result : goal.invariant_of-result
invariant_of-result g c =
    let e : map (entry_of {A = g.row.A.Denot}) c.loop-form.entries.items ≡ entries_of (map (form_of {A = g.row.A.Denot}) c.args.forms.items) = (gathered_all entry_of_form (form_of {A = g.row.A.Denot}) (entry_of {A = g.row.A.Denot}) c.into_iter-form-iterator.result.rest.items c.loop-form.form-iterator.rest.items c.loop-form.entries.items (sym c.loop-form.form-iterator.rest.ok.0 ∙ c.in-None.ensures.steps.0) c.loop-form.invariant.entries ∙ ap (λ ys. entries_of (map (form_of {A = g.row.A.Denot}) ys)) c.into_iter-form-iterator.ensures.into_iter_gives.0) in
    let few : length (entries_of (map (form_of {A = g.row.A.Denot}) c.args.forms.items)) ≤ 16 = few_processes (map (form_of {A = g.row.A.Denot}) c.args.forms.items) c.requires in
    omega (arith, few, sym (length-map c.loop-form.entries.items (entry_of {A = g.row.A.Denot})) ∙ ap length e)

pub returns : goal.returns
returns g c = same_parts _ _ _ _ _ _
    (ap (λ v. functions_of v.items) c.in_ok-new.ensures.ok ∙ gathered_all function_of_form (form_of {A = g.row.A.Denot}) (function_of {A = g.row.A.Denot}) c.into_iter-form-iterator.result.rest.items c.loop-form.form-iterator.rest.items c.loop-form.functions.items (sym c.loop-form.form-iterator.rest.ok.0 ∙ c.in-None.ensures.steps.0) c.loop-form.invariant.functions ∙ ap (λ ys. form_functions (map (form_of {A = g.row.A.Denot}) ys)) c.into_iter-form-iterator.ensures.into_iter_gives.0)
    (gathered_all entry_of_form (form_of {A = g.row.A.Denot}) (entry_of {A = g.row.A.Denot}) c.into_iter-form-iterator.result.rest.items c.loop-form.form-iterator.rest.items c.loop-form.entries.items (sym c.loop-form.form-iterator.rest.ok.0 ∙ c.in-None.ensures.steps.0) c.loop-form.invariant.entries ∙ ap (λ ys. entries_of (map (form_of {A = g.row.A.Denot}) ys)) c.into_iter-form-iterator.ensures.into_iter_gives.0)
    (gathered_all commands_of_form (form_of {A = g.row.A.Denot}) (command_of {A = g.row.A.Denot}) c.into_iter-form-iterator.result.rest.items c.loop-form.form-iterator.rest.items c.loop-form.commands.items (sym c.loop-form.form-iterator.rest.ok.0 ∙ c.in-None.ensures.steps.0) c.loop-form.invariant.commands ∙ ap (λ ys. commands_of (map (form_of {A = g.row.A.Denot}) ys)) c.into_iter-form-iterator.ensures.into_iter_gives.0)
