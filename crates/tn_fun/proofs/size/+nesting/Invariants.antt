use Rattle.std.proofs.Common.{◌≡◌, ◌<◌, ◌-◌, ◌^◌, ℕ, List, min, max, drop}
use Rattle.def_fun.specs.Trees.{greatest_nesting}
use Rattle.tn_fun.specs.Trees.{fun_exprs_seen}
use Rattle.tn_fun.proofs.size.+nesting.Given as goal

abbrev pub invariant-deepest-loop-item : goal.invariant-deepest-loop-item
invariant-deepest-loop-item g l = record {
  fits : l.greatest < 2 ^ 64;
  rest : (text : List ℕ) → min (max l.greatest (greatest_nesting (fun_exprs_seen text (drop l.item-index l.item-items)))) (2 ^ 64 - 1) ≡ min (greatest_nesting (fun_exprs_seen text l.items.items)) (2 ^ 64 - 1);
}
