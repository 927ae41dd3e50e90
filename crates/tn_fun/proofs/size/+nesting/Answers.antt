use Rattle.std.proofs.Common.{ap, ◌∙◌, arith}
use Rattle.def_fun.specs.Trees.{nesting_depth, greatest_nesting}
use Rattle.tn_fun.specs.Trees.{fun_expr_seen}
use Rattle.tn_fun.proofs.TreeViews.{seen_list_onto, seen_between, exprs_here, exprs_past, items_nest, inner_nests}
use Rattle.tn_fun.proofs.size.+nesting.Goals as goal

pub deepest-loop-item-preserved : goal.deepest-loop-item-preserved
deepest-loop-item-preserved g t c =
    let xs = c.deref-item-items.result.now in
    record {
      fits = omega (arith, c.loop-item.invariant.fits);
      rest = λ text.
          let next = ap greatest_nesting (exprs_here text xs c.loop-item.item-index c.item-item.result (omega arith) c.item-item.is) in
          let so_far = c.loop-item.invariant.rest text in
          let this = c.nesting_of.ensures text in
          omega (arith, next, so_far, this);
    }

pub deepest-returns : goal.deepest-returns
deepest-returns g t c = λ text.
    let xs = c.deref-item-items.result.now in
    let none = ap greatest_nesting (exprs_past text xs c.loop-item.item-index (omega arith)) in
    let so_far = c.loop-item.invariant.rest text in
    omega (arith, none, so_far, c.loop-item.invariant.fits)

pub nesting_of-returns-in-ListOnto : goal.nesting_of-returns-in-ListOnto
nesting_of-returns-in-ListOnto g t c = λ text.
    let is = ap (λ x. nesting_depth (fun_expr_seen text x)) c.in-ListOnto.is ∙ ap nesting_depth (seen_list_onto text c.in-ListOnto.field-0 c.in-ListOnto.items c.in-ListOnto.tail) in
    let first = c.deepest.ensures text in
    let last = c.nesting_of.ensures text in
    let there = ap (λ x. nesting_depth (fun_expr_seen text x)) c.deref.ensures in
    omega (arith, is, first, last, there)

pub nesting_of-returns-in-Between : goal.nesting_of-returns-in-Between
nesting_of-returns-in-Between g t c = λ text.
    let is = ap (λ x. nesting_depth (fun_expr_seen text x)) c.in-Between.is ∙ ap nesting_depth (seen_between text c.in-Between.field-0 c.in-Between.field-1 c.in-Between.left c.in-Between.right) in
    let first = c.nesting_of-in-Between.ensures text in
    let last = c.nesting_of-in-Between-2.ensures text in
    let there = ap (λ x. nesting_depth (fun_expr_seen text x)) c.deref-in-Between.ensures in
    let other = ap (λ x. nesting_depth (fun_expr_seen text x)) c.deref-in-Between-2.ensures in
    omega (arith, is, first, last, there, other)

pub nesting_of-returns-in-Call : goal.nesting_of-returns-in-Call
nesting_of-returns-in-Call g t c = λ text.
    let is = items_nest text c.args.expr.now c.in-Call.items c.in-Call.is in
    let greatest = c.deepest-in-Call.ensures text in
    omega (arith, is, greatest)

pub nesting_of-returns-in-Parens : goal.nesting_of-returns-in-Parens
nesting_of-returns-in-Parens g t c = λ text.
    let is = inner_nests text c.args.expr.now c.in-Parens.inner c.in-Parens.is in
    let inner = c.nesting_of-in-Parens.ensures text in
    let there = ap (λ x. nesting_depth (fun_expr_seen text x)) c.deref-in-Parens.ensures in
    omega (arith, is, inner, there)
