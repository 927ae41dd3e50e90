use Rattle.std.proofs.Common.{◌≡◌, ◌+◌, ◌<◌, ◌-◌, ◌^◌, min, drop}
use Rattle.def_term.specs.Tree.{sum_of_sizes}
use Rattle.tn_term.specs.Views.{trees_of}
use Rattle.tn_term.proofs.+size.Given as goal

abbrev pub invariant-measure::total_size-loop-item : goal.invariant-measure::total_size-loop-item
invariant-measure::total_size-loop-item g l = record {
  fits : l.total < 2 ^ 64;
  rest : min (l.total + sum_of_sizes (trees_of (drop l.item-index l.item-items))) (2 ^ 64 - 1) ≡ min (sum_of_sizes (trees_of l.items.items)) (2 ^ 64 - 1);
}
