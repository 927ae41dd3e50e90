use Rattle.std.proofs.Common.{◌≡◌, map, sym, ap, ◌∙◌}
use Rattle.def_term.specs.Tree.{elements, of_elements}
use Rattle.tn_term.specs.Views.{tree_of, trees_of}
use Rattle.tn_term.proofs.Views.{elements-of_elements}
use Rattle.tn_script.proofs.same.same_args.Goals as goal

pub returns : goal.returns
returns g c =
    let ts = map (tree_of {A = g.row.A.Denot}) c.args.one.now.terms.items in
    let us = map (tree_of {A = g.row.A.Denot}) c.args.other.now.terms.items in
    let here : trees_of c.deref.result.now ≡ of_elements ts = ap trees_of c.deref.ensures.value in
    let there : trees_of c.deref-2.result.now ≡ of_elements us = ap trees_of c.deref-2.ensures.value in (
      λ yes. sym (elements-of_elements ts) ∙ ap elements (sym here ∙ c.same_terms.ensures.0 yes ∙ there) ∙ elements-of_elements us,
      λ e. c.same_terms.ensures.1 (here ∙ ap of_elements e ∙ sym there),
    )
