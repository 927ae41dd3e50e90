use Rattle.std.proofs.Common.{◌≡◌, ◌+◌, ◌∙◌, sym, ap, ap₂, arith, refl}
use Rattle.std.specs.Ordering.{nat_cmp, ordering_then}
use Rattle.std.specs.declared.cmp.Ordering.TheVariants.{Equal}
use Rattle.def_term.specs.Order.{tree_cmp, trees_cmp}
use Rattle.tn_term.proofs.Trees.{then_unequal}
use Rattle.tn_term.specs.Views.{tree_of}
use Rattle.tn_guard.specs.Views.{value_seen, list_view_seen}
use Rattle.tn_guard.proofs.Places.{rest_from, rest_here, rest_end, nth_depth}
use Rattle.tn_guard.proofs.Views.{value_seen_lent}
use Rattle.tn_guard.proofs.shape.+order.Goals as goal

pub order_parts-loop-i-init : goal.order_parts-loop-i-init
unfolding rest_from
order_parts-loop-i-init g t c = refl

pub order_parts-order_values-requires : goal.order_parts-order_values-requires
order_parts-order_values-requires g t c =
    let shallow = nth_depth (list_view_seen c.args.v) c.loop-i.i (value_seen c.at.result) c.at.ensures in
    λ κs within. (omega (arith, c.decreases), within)

pub order_values-returns-in-Lent-Lent : goal.order_values-returns-in-Lent-Lent
order_values-returns-in-Lent-Lent g t c =
    let p = c.in-Lent-Lent in
    let one : value_seen c.args.one ≡ tree_of p.term.now = ap value_seen p.is-0 ∙ value_seen_lent p.term in
    let other : value_seen c.args.other ≡ tree_of p.other.now = ap value_seen p.is-1 ∙ value_seen_lent p.other in
    c.order.ensures ∙ sym (ap₂ tree_cmp one other)

pub order_parts-returns-in_default : goal.order_parts-returns-in_default
order_parts-returns-in_default g t c =
    let ts = list_view_seen c.args.v in
    let us = list_view_seen c.args.w in
    let one = value_seen c.at.result in
    let other = value_seen c.at-in-loop-i.result in
    let rest = trees_cmp (rest_from (c.loop-i.i + 1) ts) (rest_from (c.loop-i.i + 1) us) in
    let here = ap₂ trees_cmp (rest_here ts c.loop-i.i one c.at.ensures) (rest_here us c.loop-i.i other c.at-in-loop-i.ensures) in
    c.order_values.ensures ∙ then_unequal (tree_cmp one other) rest (λ h. c.in_default.not-Equal (c.order_values.ensures ∙ h)) ∙ sym here ∙ c.loop-i.invariant

pub order_parts-loop-i-preserved : goal.order_parts-loop-i-preserved
order_parts-loop-i-preserved g t c =
    let ts = list_view_seen c.args.v in
    let us = list_view_seen c.args.w in
    let one = value_seen c.at.result in
    let other = value_seen c.at-in-loop-i.result in
    let rest = trees_cmp (rest_from (c.loop-i.i + 1) ts) (rest_from (c.loop-i.i + 1) us) in
    let here = ap₂ trees_cmp (rest_here ts c.loop-i.i one c.at.ensures) (rest_here us c.loop-i.i other c.at-in-loop-i.ensures) in
    let equal : tree_cmp one other ≡ Equal = sym c.order_values.ensures ∙ c.in-Equal.is in
    sym (here ∙ ap (λ r. ordering_then r rest) equal) ∙ c.loop-i.invariant

pub order_parts-returns : goal.order_parts-returns
order_parts-returns g t c =
    let ts = list_view_seen c.args.v in
    let us = list_view_seen c.args.w in
    let ended = rest_end ts us c.loop-i.i (omega (arith, c.len.ensures.counted, c.len-2.ensures.counted)) in
    c.cmp.ensures ∙ ap₂ nat_cmp c.len-3.ensures.counted c.len-4.ensures.counted ∙ sym ended ∙ c.loop-i.invariant
