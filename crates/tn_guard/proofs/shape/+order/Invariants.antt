use Rattle.std.proofs.Common.{◌≡◌, ◌+◌, ◌*◌}
use Rattle.def_term.specs.Tree.{depth, greatest_depth}
use Rattle.def_term.specs.Order.{trees_cmp}
use Rattle.tn_guard.specs.Views.{value_seen, shape_seen, list_view_seen}
use Rattle.tn_guard.proofs.Places.{rest_from}
use Rattle.tn_guard.proofs.shape.+order.Given as goal

abbrev pub decreases-order_shapes : goal.decreases-order_shapes
decreases-order_shapes g l = 3 * depth (shape_seen l.one)

abbrev pub decreases-order_values : goal.decreases-order_values
decreases-order_values g l = 3 * depth (value_seen l.one) + 1

abbrev pub decreases-order_parts : goal.decreases-order_parts
decreases-order_parts g l = 3 * greatest_depth (list_view_seen l.v) + 2

abbrev pub invariant-order_parts-loop-i : goal.invariant-order_parts-loop-i
invariant-order_parts-loop-i g l =
    trees_cmp (rest_from l.i (list_view_seen l.v)) (rest_from l.i (list_view_seen l.w)) ≡ trees_cmp (list_view_seen l.v) (list_view_seen l.w)
