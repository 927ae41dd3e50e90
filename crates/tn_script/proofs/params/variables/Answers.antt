use Rattle.std.proofs.Common.{map, sym, ap, ◌∙◌, refl, Some}
use Rattle.std.proofs.lemmas.List.{map-id}
use Rattle.def_script.specs.Shapes.{each_in, variable_in}
use Rattle.tn_term.specs.Views.{tree_of}
use Rattle.tn_script.proofs.Each.{each_begins, each_next, each_stops, each_ends}
use Rattle.tn_script.proofs.params.variables.Goals as goal

pub loop-term-init : goal.loop-term-init
loop-term-init g c = each_begins variable_in (tree_of {A = g.row.A.Denot}) (λ s. s) c.into_iter-term-iterator.result.rest.items c.into_iter-term-iterator.result.rest.items c.new-variables.result.items refl c.new-variables.ensures.items

pub loop-term-preserved : goal.loop-term-preserved
loop-term-preserved g c =
    each_next variable_in (tree_of {A = g.row.A.Denot}) (λ s. s) c.into_iter-term-iterator.result.rest.items c.loop-term.term-iterator.rest.items c.next.new.self.rest.items c.in-Some.term c.loop-term.variables.items c.push.new.self.items c.in-Some-variable.variable
    c.in-Some.ensures.steps.0 c.in-Some-variable.ensures c.in_ok-push.ensures.items c.loop-term.invariant

pub returns-in_default : goal.returns-in_default
returns-in_default g c =
    each_stops variable_in (tree_of {A = g.row.A.Denot}) c.into_iter-term-iterator.result.rest.items c.loop-term.term-iterator.rest.items c.next.new.self.rest.items c.in-Some.term (map (λ s. s) c.loop-term.variables.items) c.in-Some.ensures.steps.0 (sym c.in_default.is ∙ c.variable.ensures) c.loop-term.invariant
    ∙ ap (each_in variable_in) (ap (map (tree_of {A = g.row.A.Denot})) c.into_iter-term-iterator.ensures.into_iter_gives.0)

pub returns : goal.returns
returns g c =
    ap Some (sym (map-id c.loop-term.variables.items))
    ∙ each_ends variable_in (tree_of {A = g.row.A.Denot}) (λ s. s) c.into_iter-term-iterator.result.rest.items c.loop-term.term-iterator.rest.items c.loop-term.variables.items (sym c.loop-term.term-iterator.rest.ok.0 ∙ c.in-None.ensures.steps.0) c.loop-term.invariant
    ∙ ap (each_in variable_in) (ap (map (tree_of {A = g.row.A.Denot})) c.into_iter-term-iterator.ensures.into_iter_gives.0)
