use Rattle.std.proofs.Common.{◌≡◌, ◌∷◌, ◌++◌, drop, flat_map, map}
use Rattle.def_term.specs.Text.{w}
use Rattle.tn_term.specs.Views.{tree_of}
use Rattle.tn_picture.proofs.label.append_terms.Given as goal

abbrev pub invariant-loop-term : goal.invariant-loop-term
invariant-loop-term g l =
    l.out.items ++ flat_map (λ t. 32 ∷ w t) (map (λ t. tree_of t.now) (drop l.term-index l.terms))
    ≡ l.fn.out.items ++ flat_map (λ t. 32 ∷ w t) (map (λ t. tree_of t.now) l.terms)
