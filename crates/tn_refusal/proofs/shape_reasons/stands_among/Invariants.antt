use Rattle.std.proofs.Common.{◌≡◌, map, drop}
use Rattle.std.specs.List.{list_any}
use Rattle.def_term.specs.Order.{same}
use Rattle.tn_term.specs.Views.{tree_of}
use Rattle.tn_refusal.proofs.shape_reasons.stands_among.Given as goal

abbrev pub invariant-loop-term : goal.invariant-loop-term
invariant-loop-term g l =
    list_any (λ u. same u (tree_of l.fn.wanted)) (map tree_of l.fn.terms) ≡ list_any (λ u. same u (tree_of l.fn.wanted)) (map tree_of (drop l.term-index l.fn.terms))
