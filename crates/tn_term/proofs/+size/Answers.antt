use Rattle.std.proofs.Common.{ap, arith}
use Rattle.def_term.specs.Tree.{sum_of_sizes}
use Rattle.tn_term.specs.Views.{tree_of}
use Rattle.tn_term.proofs.Trees.{here, past}
use Rattle.tn_term.proofs.+size.Goals as goal

pub measure::total_size-loop-item-preserved : goal.measure::total_size-loop-item-preserved
measure::total_size-loop-item-preserved g t c =
    let xs = c.deref-item-items.result.now in
    let next = ap sum_of_sizes (here tree_of xs c.loop-item.item-index c.item-item.result (omega arith) c.item-item.is) in
    record { fits = omega arith; rest = omega arith }

pub measure::total_size-returns : goal.measure::total_size-returns
measure::total_size-returns g t c =
    let xs = c.deref-item-items.result.now in
    let none = ap sum_of_sizes (past tree_of xs c.loop-item.item-index (omega arith)) in
    omega arith
