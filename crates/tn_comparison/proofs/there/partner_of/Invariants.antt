use Rattle.std.proofs.Common.{◌≡◌, map, drop}
use Rattle.def_compare.specs.Output.{partner_of}
use Rattle.tn_renaming.specs.Pairs.{pair_seen}
use Rattle.tn_comparison.proofs.there.partner_of.Given as goal

abbrev pub invariant-loop-pair : goal.invariant-loop-pair
invariant-loop-pair l = partner_of (map pair_seen l.pairs) l.pid ≡ partner_of (map pair_seen (drop l.pair-index l.pairs)) l.pid
