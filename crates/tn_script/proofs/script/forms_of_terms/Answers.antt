use Rattle.std.proofs.Common.{◌+◌, ◌≤◌, length, map, sym, ap, ◌∙◌, subst, arith}
use Rattle.std.specs.Option.{option_map}
use Rattle.std.proofs.lemmas.List.{length-map}
use Rattle.def_script.specs.Shapes.{each_in, form_in}
use Rattle.def_script.specs.Script.{IsFirstShapeless}
use Rattle.tn_term.specs.Views.{tree_of}
use Rattle.tn_script.specs.Views.{form_of}
use Rattle.tn_script.proofs.Each.{read_begins, read_next, read_all, first_shapeless}
use Rattle.tn_script.proofs.script.forms_of_terms.Goals as goal

pub loop-term-init : goal.loop-term-init
loop-term-init g c = read_begins form_in (tree_of {A = g.row.A.Denot}) (form_of {A = g.row.A.Denot}) c.into_iter-term-iterator.result.rest.items c.new-forms.result.items c.new-forms.ensures.items

pub loop-term-preserved : goal.loop-term-preserved
loop-term-preserved g c =
    read_next form_in (tree_of {A = g.row.A.Denot}) (form_of {A = g.row.A.Denot}) c.into_iter-term-iterator.result.rest.items c.loop-term.yielded c.loop-term.term-iterator.rest.items c.next.new.self.rest.items
    c.in-Some.term c.loop-term.forms.items c.push.new.self.items c.in-Some-form.form c.in-Some.ensures.steps.0
    (ap (option_map (form_of {A = g.row.A.Denot})) (sym c.in-Some-form.is) ∙ c.in-Ok.ensures) c.in-Ok-push.ensures.items c.loop-term.invariant

pub returns-in_default-form : goal.returns-in_default-form
returns-in_default-form g c =
    let whole = c.into_iter-term-iterator.ensures.into_iter_gives.0 in
    let few : length (map (tree_of {A = g.row.A.Denot}) c.args.terms.items) ≤ 256 = omega (arith, length-map c.args.terms.items (tree_of {A = g.row.A.Denot}), c.args.terms.ok.0) in (
      few,
      subst (λ ts. IsFirstShapeless (map (tree_of {A = g.row.A.Denot}) ts) (c.len-in_default-form.result + 1)) whole
          (first_shapeless (tree_of {A = g.row.A.Denot}) (form_of {A = g.row.A.Denot}) c.into_iter-term-iterator.result.rest.items c.loop-term.yielded c.loop-term.term-iterator.rest.items c.next.new.self.rest.items
          c.in-Some.term c.loop-term.forms.items (c.len-in_default-form.result + 1) c.in-Some.ensures.steps.0
          (ap (option_map (form_of {A = g.row.A.Denot})) (sym c.in_default-form.is) ∙ c.in-Ok.ensures) (ap (λ n. n + 1) (c.len-in_default-form.ensures ∙ c.loop-term.forms.ok.0)) c.loop-term.invariant),
    )

pub returns : goal.returns
returns g c =
    let few : length (map (tree_of {A = g.row.A.Denot}) c.args.terms.items) ≤ 256 = omega (arith, length-map c.args.terms.items (tree_of {A = g.row.A.Denot}), c.args.terms.ok.0) in (
      ap (λ ts. each_in form_in (map (tree_of {A = g.row.A.Denot}) ts)) (sym c.into_iter-term-iterator.ensures.into_iter_gives.0)
          ∙ read_all form_in (tree_of {A = g.row.A.Denot}) (form_of {A = g.row.A.Denot}) c.into_iter-term-iterator.result.rest.items c.loop-term.yielded c.loop-term.term-iterator.rest.items c.loop-term.forms.items
          (sym c.loop-term.term-iterator.rest.ok.0 ∙ c.in-None.ensures.steps.0) c.loop-term.invariant,
      few,
    )
