use Rattle.std.proofs.Common.{ap, sym, ◌∙◌, arith, Some}
use Rattle.def_term.specs.Tree.{count}
use Rattle.def_spec.specs.Functions.{nth}
use Rattle.tn_term.specs.Views.{tree_of}
use Rattle.tn_term.proofs.Trees.{count_seen}
use Rattle.tn_guard.specs.Views.{value_seen, list_view_seen}
use Rattle.tn_guard.proofs.Places.{nth_seen}
use Rattle.tn_guard.proofs.Views.{value_seen_lent}
use Rattle.tn_guard.proofs.list_view.ListView.at.Goals as goal

pub offset_bounds-items-place : goal.offset_bounds-items-place
offset_bounds-items-place g c =
    let counted = ap (λ p. count (list_view_seen p)) c.in-Terms.is ∙ count_seen tree_of c.in-Terms.items.now in
    omega (arith, c.requires)

pub bounds-items-place : goal.bounds-items-place
bounds-items-place g c =
    let counted = ap (λ p. count (list_view_seen p)) c.in-Terms.is ∙ count_seen tree_of c.in-Terms.items.now in
    omega (arith, c.requires)

pub value_at-requires : goal.value_at-requires
value_at-requires g c =
    let counted = ap (λ p. count (list_view_seen p)) c.in-Values.is ∙ count_seen value_seen c.in-Values.items.now in
    omega (arith, c.requires)

pub returns-in-Terms : goal.returns-in-Terms
returns-in-Terms g c =
    let counted = ap (λ p. count (list_view_seen p)) c.in-Terms.is ∙ count_seen tree_of c.in-Terms.items.now in
    ap Some (value_seen_lent _) ∙ nth_seen tree_of c.in-Terms.items.now c.args.place _ (omega (arith, c.requires)) c.index-items-place.is ∙ sym (ap (λ p. nth (list_view_seen p) c.args.place) c.in-Terms.is)
