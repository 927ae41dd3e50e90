use Rattle.std.proofs.Common.{◌≡◌, ◌++◌, drop, flat_map}
use Rattle.def_compare.specs.Output.{pair_line}
use Rattle.tn_renaming.specs.Pairs.{pair_seen}
use Rattle.tn_answers.proofs.comparison.put_pairs.Given as goal

abbrev pub invariant-loop-pair : goal.invariant-loop-pair
invariant-loop-pair g l = l.out.items ++ flat_map (λ p. pair_line (pair_seen p)) (drop l.pair-index l.pairs) ≡ l.fn.out.items ++ flat_map (λ p. pair_line (pair_seen p)) l.pairs
