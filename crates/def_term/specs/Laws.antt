-- What is promised of the order of terms ("Term Comparisons" of the Erlang Reference Manual).
-- Depends on terms and their order.
use Rattle.std.specs.Prelude.{◌≡◌}
use Rattle.std.specs.Cmp.{IsTotalOrder}
use Rattle.std.specs.declared.cmp.Ordering.TheVariants.{Equal}
use Rattle.def_term.specs.Tree.{Tree}
use Rattle.def_term.specs.Order.{tree_cmp}

-- of any two terms one comes before the other, or they are equal; a term that comes before another comes before all those after it
abbrev pub OrderIsTotal : Type 0
OrderIsTotal = IsTotalOrder tree_cmp

-- only a term and itself compare as equal
abbrev pub OnlyItselfIsEqual : Type 0
OnlyItselfIsEqual = (t u : Tree) → tree_cmp t u ≡ Equal → t ≡ u
