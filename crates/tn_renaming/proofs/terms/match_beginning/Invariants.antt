use Rattle.std.proofs.Common.{◌≤◌, drop, length, map}
use Rattle.def_renaming.specs.Renaming.{with_prefix_pairs}
use Rattle.tn_renaming.specs.Pairs.{pairs_seen, lent_term_seen}
use Rattle.tn_renaming.proofs.Matches.{IsOn}
use Rattle.tn_renaming.proofs.terms.match_beginning.Given as goal

abbrev pub invariant-loop-i : goal.invariant-loop-i
invariant-loop-i g l =
    let old = pairs_seen l.fn.pairs in
    let now = pairs_seen l.pairs in record {
      lengths : length l.there ≤ length l.here;
      on : IsOn old (with_prefix_pairs old (map lent_term_seen l.there) (map lent_term_seen l.here)) now (with_prefix_pairs now (map lent_term_seen (drop l.i l.there)) (map lent_term_seen (drop l.i l.here)));
    }
