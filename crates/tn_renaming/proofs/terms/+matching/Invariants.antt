use Rattle.std.proofs.Common.{◌≡◌, drop, length}
use Rattle.def_renaming.specs.Renaming.{with_element_pairs}
use Rattle.tn_term.specs.Views.{trees_of}
use Rattle.tn_renaming.specs.Pairs.{pairs_seen}
use Rattle.tn_renaming.proofs.Matches.{IsOn}
use Rattle.tn_renaming.proofs.terms.+matching.Given as goal

abbrev pub invariant-match_terms-loop-i : goal.invariant-match_terms-loop-i
invariant-match_terms-loop-i g l =
    let old = pairs_seen l.fn.pairs in
    let now = pairs_seen l.pairs in record {
      lengths : length l.there ≡ length l.here;
      on : IsOn old (with_element_pairs old (trees_of l.there) (trees_of l.here)) now (with_element_pairs now (trees_of (drop l.i l.there)) (trees_of (drop l.i l.here)));
    }
