use Rattle.std.proofs.Common.{◌≡◌, ◌∙◌, sym, ap, ap₂}
use Rattle.def_term.specs.Tree.{list}
use Rattle.def_term.specs.Order.{same}
use Rattle.tn_term.specs.Views.{trees_of}
use Rattle.tn_guard.specs.Views.{list_view_seen}
use Rattle.tn_guard.proofs.Same.{decided-lists}
use Rattle.tn_guard.proofs.shape.same_parts.Goals as goal

pub returns-in-Terms-Terms : goal.returns-in-Terms-Terms
returns-in-Terms-Terms g c =
    let p = c.in-Terms-Terms in
    let one : list (list_view_seen c.args.one) ≡ list (trees_of p.terms.now) = ap (λ v. list (list_view_seen v)) p.is-0 in
    let other : list (list_view_seen c.args.other) ≡ list (trees_of p.others.now) = ap (λ v. list (list_view_seen v)) p.is-1 in
    decided-lists c.same_terms.result (trees_of p.terms.now) (trees_of p.others.now) c.same_terms.ensures ∙ sym (ap₂ same one other)
