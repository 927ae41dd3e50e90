use Rattle.std.proofs.Common.{ap, arith}
use Rattle.def_term.specs.Tree.{greatest_depth}
use Rattle.tn_term.specs.Views.{tree_of}
use Rattle.tn_term.proofs.Trees.{here, past}
use Rattle.tn_term.proofs.+depth.Goals as goal

pub measure::deepest-loop-item-preserved : goal.measure::deepest-loop-item-preserved
measure::deepest-loop-item-preserved g t c =
    let xs = c.deref-item-items.result.now in
    let next = ap greatest_depth (here tree_of xs c.loop-item.item-index c.item-item.result (omega arith) c.item-item.is) in
    record { fits = omega arith; rest = omega arith }

pub measure::deepest-returns : goal.measure::deepest-returns
measure::deepest-returns g t c =
    let xs = c.deref-item-items.result.now in
    let none = ap greatest_depth (past tree_of xs c.loop-item.item-index (omega arith)) in
    omega arith
