use Rattle.std.proofs.Common.{◌≡◌, map, take, flat_map}
use Rattle.tn_renaming.specs.Pairs.{lent_terms_seen}
use Rattle.tn_comparison.proofs.lists.all_in.Given as goal

abbrev pub invariant-loop-list : goal.invariant-loop-list
invariant-loop-list g l = lent_terms_seen l.all ≡ flat_map (λ ms. ms) (map lent_terms_seen (take l.list-index l.lists))
