use Rattle.std.proofs.Common.{◌≡◌, ◌+◌, ◌*◌, [], ◌∷◌, drop, flat_map, length, map, option_to_list}
use Rattle.def_renaming.specs.Renaming.{with_prefix_pairs}
use Rattle.tn_renaming.specs.Pairs.{first_from, pairs_seen, lent_terms_seen}
use Rattle.tn_renaming.proofs.search.+search.Given as goal

abbrev pub decreases-extend_pairs : goal.decreases-extend_pairs
decreases-extend_pairs g l = 2 * length l.groups.now

abbrev pub decreases-extend_by_list : goal.decreases-extend_by_list
decreases-extend_by_list g l = 2 * length l.rest.now + 1

abbrev pub invariant-extend_pairs-loop-list : goal.invariant-extend_pairs-loop-list
invariant-extend_pairs-loop-list g l =
    let old = pairs_seen l.fn.pairs in
    let lists = map lent_terms_seen l.lists in record {
      pairs : pairs_seen l.pairs ≡ old;
      left : first_from (map lent_terms_seen l.rest) lists (flat_map (λ us. option_to_list (with_prefix_pairs old (lent_terms_seen l.group) us)) (map lent_terms_seen (drop l.list-index l.lists)))
          ≡ first_from (map lent_terms_seen l.groups) lists (old ∷ []);
    }
