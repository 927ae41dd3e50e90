use Rattle.std.proofs.Common.{length, map, ap, sym, refl, ◌∙◌}
use Rattle.def_script.specs.Rules.{on_some, named_by, is_misnamed}
use Rattle.tn_term.specs.Views.{tree_of}
use Rattle.tn_script.specs.Views.{step_of, form_of}
use Rattle.tn_program.proofs.FunctionNames.{args_count, same_named}
use Rattle.tn_program.proofs.rules.step_misnamed.Goals as goal

pub returns-in-CallRemote : goal.returns-in-CallRemote
returns-in-CallRemote g c =
    c.is_misnamed.ensures ∙ same_named (is_misnamed (map (form_of {A = g.row.A.Denot}) c.args.forms.now)) c.text.result.now c.in-CallRemote.module c.text-in-CallRemote.result.now c.in-CallRemote.name c.len.result (length (map (tree_of {A = g.row.A.Denot}) c.in-CallRemote.args.terms.items)) c.text.ensures.text c.text-in-CallRemote.ensures.text (args_count {A = g.row.A.Denot} c.in-CallRemote.args.terms c.len.result c.len.ensures)
    ∙ ap (λ s. on_some (is_misnamed (map (form_of {A = g.row.A.Denot}) c.args.forms.now)) (named_by c.args.of_module.now ((step_of {A = g.row.A.Denot}) s))) (sym c.in-CallRemote.is)

pub returns-in-CallLocal : goal.returns-in-CallLocal
returns-in-CallLocal g c =
    c.is_misnamed-in-CallLocal.ensures ∙ same_named (is_misnamed (map (form_of {A = g.row.A.Denot}) c.args.forms.now)) c.args.of_module.now c.args.of_module.now c.text-in-CallLocal.result.now c.in-CallLocal.name c.len-in-CallLocal.result (length (map (tree_of {A = g.row.A.Denot}) c.in-CallLocal.args.terms.items)) refl c.text-in-CallLocal.ensures.text (args_count {A = g.row.A.Denot} c.in-CallLocal.args.terms c.len-in-CallLocal.result c.len-in-CallLocal.ensures)
    ∙ ap (λ s. on_some (is_misnamed (map (form_of {A = g.row.A.Denot}) c.args.forms.now)) (named_by c.args.of_module.now ((step_of {A = g.row.A.Denot}) s))) (sym c.in-CallLocal.is)

pub returns-in-Catch : goal.returns-in-Catch
returns-in-Catch g c =
    c.is_misnamed-in-Catch.ensures ∙ same_named (is_misnamed (map (form_of {A = g.row.A.Denot}) c.args.forms.now)) c.text-in-Catch.result.now c.in-Catch.module c.text-in-Catch-2.result.now c.in-Catch.name c.len-in-Catch.result (length (map (tree_of {A = g.row.A.Denot}) c.in-Catch.args.terms.items)) c.text-in-Catch.ensures.text c.text-in-Catch-2.ensures.text (args_count {A = g.row.A.Denot} c.in-Catch.args.terms c.len-in-Catch.result c.len-in-Catch.ensures)
    ∙ ap (λ s. on_some (is_misnamed (map (form_of {A = g.row.A.Denot}) c.args.forms.now)) (named_by c.args.of_module.now ((step_of {A = g.row.A.Denot}) s))) (sym c.in-Catch.is)

pub returns-in-Spawn : goal.returns-in-Spawn
returns-in-Spawn g c =
    c.is_misnamed-in-Spawn.ensures ∙ same_named (is_misnamed (map (form_of {A = g.row.A.Denot}) c.args.forms.now)) c.text-in-Spawn.result.now c.in-Spawn.module c.text-in-Spawn-2.result.now c.in-Spawn.name c.len-in-Spawn.result (length (map (tree_of {A = g.row.A.Denot}) c.in-Spawn.args.terms.items)) c.text-in-Spawn.ensures.text c.text-in-Spawn-2.ensures.text (args_count {A = g.row.A.Denot} c.in-Spawn.args.terms c.len-in-Spawn.result c.len-in-Spawn.ensures)
    ∙ ap (λ s. on_some (is_misnamed (map (form_of {A = g.row.A.Denot}) c.args.forms.now)) (named_by c.args.of_module.now ((step_of {A = g.row.A.Denot}) s))) (sym c.in-Spawn.is)
