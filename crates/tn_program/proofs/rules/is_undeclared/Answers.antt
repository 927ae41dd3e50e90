use Rattle.std.proofs.Common.{not, length, map, ap, sym, ◌∙◌}
use Rattle.std.specs.List.{list_any}
use Rattle.def_script.specs.Rules.{on_some, named_by, breaks_undeclared}
use Rattle.tn_term.specs.Views.{tree_of}
use Rattle.tn_script.specs.Views.{step_of, form_of}
use Rattle.tn_program.specs.Declarations.{is_unnamed}
use Rattle.tn_program.proofs.FunctionNames.{args_count, same_named}
use Rattle.tn_program.proofs.rules.is_undeclared.Goals as goal

pub returns-in-Function : goal.returns-in-Function
returns-in-Function g c =
    c.any_against.ensures
    ∙ ap (λ m. list_any (λ s. on_some (is_unnamed (map (form_of {A = g.row.A.Denot}) c.args.forms.now)) (named_by m s)) (map (step_of {A = g.row.A.Denot}) c.deref.result.now)) c.text.ensures.text
    ∙ ap (λ xs. list_any (λ s. on_some (is_unnamed (map (form_of {A = g.row.A.Denot}) c.args.forms.now)) (named_by c.in-Function.function.module s)) (map (step_of {A = g.row.A.Denot}) xs)) c.deref.ensures.value
    ∙ ap (λ f. breaks_undeclared (map (form_of {A = g.row.A.Denot}) c.args.forms.now) (map (form_of {A = g.row.A.Denot}) c.args.earlier.now) ((form_of {A = g.row.A.Denot}) f)) (sym c.in-Function.is)

pub returns-in-Process : goal.returns-in-Process
returns-in-Process g c =
    ap not c.is_declared_at_all.ensures
    ∙ same_named (is_unnamed (map (form_of {A = g.row.A.Denot}) c.args.forms.now)) c.text-in-Process.result.now c.in-Process.entry.module c.text-in-Process-2.result.now c.in-Process.entry.name c.len.result (length (map (tree_of {A = g.row.A.Denot}) c.in-Process.entry.args.terms.items)) c.text-in-Process.ensures.text c.text-in-Process-2.ensures.text (args_count {A = g.row.A.Denot} c.in-Process.entry.args.terms c.len.result c.len.ensures)
    ∙ ap (λ f. breaks_undeclared (map (form_of {A = g.row.A.Denot}) c.args.forms.now) (map (form_of {A = g.row.A.Denot}) c.args.earlier.now) ((form_of {A = g.row.A.Denot}) f)) (sym c.in-Process.is)
