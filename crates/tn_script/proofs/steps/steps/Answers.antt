use Rattle.std.proofs.Common.{map, sym, ap, ◌∙◌, refl}
use Rattle.std.specs.Option.{option_map}
use Rattle.def_script.specs.Shapes.{each_in, and_then, step_in}
use Rattle.tn_term.specs.Views.{tree_of}
use Rattle.tn_script.specs.Views.{step_of}
use Rattle.tn_script.proofs.Each.{each_begins, each_next, each_stops, each_ends}
use Rattle.tn_script.proofs.steps.steps.Goals as goal

pub loop-term-init : goal.loop-term-init
loop-term-init g c = each_begins step_in (tree_of {A = g.row.A.Denot}) (step_of {A = g.row.A.Denot}) c.into_iter-term-iterator.result.rest.items c.into_iter-term-iterator.result.rest.items c.new-steps.result.items refl c.new-steps.ensures.items

pub loop-term-preserved : goal.loop-term-preserved
loop-term-preserved g c =
    each_next step_in (tree_of {A = g.row.A.Denot}) (step_of {A = g.row.A.Denot}) c.into_iter-term-iterator.result.rest.items c.loop-term.term-iterator.rest.items c.next.new.self.rest.items c.in-Some-term.term c.loop-term.steps.items c.push.new.self.items c.in-Some-step.step
    c.in-Some-term.ensures.steps.0 c.in-Some-step.ensures c.in_ok-push.ensures.items c.loop-term.invariant

pub returns-in_default-step : goal.returns-in_default-step
returns-in_default-step g c =
    each_stops step_in (tree_of {A = g.row.A.Denot}) c.into_iter-term-iterator.result.rest.items c.loop-term.term-iterator.rest.items c.next.new.self.rest.items c.in-Some-term.term (map (step_of {A = g.row.A.Denot}) c.loop-term.steps.items) c.in-Some-term.ensures.steps.0 (ap (option_map (step_of {A = g.row.A.Denot})) (sym c.in_default-step.is) ∙ c.step.ensures) c.loop-term.invariant
    ∙ ap (each_in step_in) (ap (map (tree_of {A = g.row.A.Denot})) c.into_iter-term-iterator.ensures.into_iter_gives.0)
    ∙ ap (λ o. and_then o (λ ts. each_in step_in ts)) c.in-Some.ensures

pub returns : goal.returns
returns g c =
    each_ends step_in (tree_of {A = g.row.A.Denot}) (step_of {A = g.row.A.Denot}) c.into_iter-term-iterator.result.rest.items c.loop-term.term-iterator.rest.items c.loop-term.steps.items (sym c.loop-term.term-iterator.rest.ok.0 ∙ c.in-None.ensures.steps.0) c.loop-term.invariant
    ∙ ap (each_in step_in) (ap (map (tree_of {A = g.row.A.Denot})) c.into_iter-term-iterator.ensures.into_iter_gives.0)
    ∙ ap (λ o. and_then o (λ ts. each_in step_in ts)) c.in-Some.ensures
