use Rattle.std.proofs.Common.{◌≡◌, drop}
use Rattle.def_term.specs.Order.{trees_cmp}
use Rattle.tn_term.specs.Views.{trees_of}
use Rattle.tn_term.proofs.compare.+order.Given as goal

abbrev pub invariant-order_all-loop-i : goal.invariant-order_all-loop-i
invariant-order_all-loop-i g l =
    trees_cmp (trees_of (drop l.i l.v.items)) (trees_of (drop l.i l.w.items)) ≡ trees_cmp (trees_of l.v.items) (trees_of l.w.items)
