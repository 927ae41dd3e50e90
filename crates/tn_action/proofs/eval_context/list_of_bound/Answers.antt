use Rattle.std.proofs.Common.{◌∙◌, sym, ap, map}
use Rattle.std.proofs.lemmas.List.{take_all}
use Rattle.def_term.specs.Tree.{list, of_elements}
use Rattle.tn_guard.specs.Views.{value_seen, values_seen}
use Rattle.tn_guard.proofs.Views.{value_seen_list}
use Rattle.tn_action.proofs.Steps.{each_bound}
use Rattle.tn_action.proofs.eval_context.list_of_bound.Goals as goal

pub returns : goal.returns
returns g c =
    let bs = c.args.bindings.now in
    value_seen_list c.into_bump_slice.result
    ∙ ap (λ vs. list (values_seen vs)) c.into_bump_slice.ensures
    ∙ ap (λ ts. list (of_elements ts)) (c.loop-binding.invariant ∙ ap (map (λ b. value_seen b.value)) (take_all c.loop-binding.binding-index bs c.loop-binding-test.false) ∙ sym (each_bound bs))
