use Rattle.std.proofs.Common.{◌≡◌, ◌≤◌, length, map, sym, ap, ◌∙◌, arith}
use Rattle.std.proofs.lemmas.List.{length-map}
use Rattle.tn_term.specs.Views.{tree_of}
use Rattle.tn_script.proofs.copies.copy_arguments.Goals as goal

pub invariant_of-result : goal.invariant_of-result
invariant_of-result g c =
    let same : length c.in_ok-terms.terms.items ≡ length c.args.args.now.terms.items =
    sym (length-map c.in_ok-terms.terms.items (tree_of {A = g.row.A.Denot})) ∙ ap length c.in_ok-terms.ensures
    ∙ length-map c.deref.result.now (tree_of {A = g.row.A.Denot}) ∙ ap length c.deref.ensures.value in
    let few : length c.args.args.now.terms.items ≤ 255 = c.args.args.now.fits in
    omega (arith, same, few)

pub returns : goal.returns
returns g c = c.in_ok-terms.ensures ∙ ap (map (tree_of {A = g.row.A.Denot})) c.deref.ensures.value
