use Rattle.std.proofs.Common.{◌≡◌, ◌<◌, ◌-◌, ◌^◌, min, max, drop}
use Rattle.def_term.specs.Tree.{greatest_depth}
use Rattle.tn_term.specs.Views.{trees_of}
use Rattle.tn_term.proofs.+depth.Given as goal

abbrev pub invariant-measure::deepest-loop-item : goal.invariant-measure::deepest-loop-item
invariant-measure::deepest-loop-item g l = record {
  fits : l.greatest < 2 ^ 64;
  rest : min (max l.greatest (greatest_depth (trees_of (drop l.item-index l.item-items)))) (2 ^ 64 - 1) ≡ min (greatest_depth (trees_of l.items.items)) (2 ^ 64 - 1);
}
