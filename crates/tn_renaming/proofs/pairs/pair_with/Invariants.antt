use Rattle.std.proofs.Common.{◌≡◌, find, map, drop}
use Rattle.def_renaming.specs.Renaming.{has_either}
use Rattle.tn_renaming.specs.Pairs.{pair_seen}
use Rattle.tn_renaming.proofs.pairs.pair_with.Given as goal

abbrev pub invariant-loop-pair : goal.invariant-loop-pair
invariant-loop-pair l =
    find (has_either l.there l.here) (map pair_seen l.pairs) ≡ find (has_either l.there l.here) (map pair_seen (drop l.pair-index l.pairs))
