use Rattle.std.proofs.Common.{◌≡◌, ◌+◌, drop, map}
use Rattle.def_fun.specs.Variables.{number_among}
use Rattle.tn_translation.specs.Names.{bytes_seen}
use Rattle.tn_translation.proofs.names.ClauseNames.number_of.Given as goal

abbrev pub invariant-loop-i : goal.invariant-loop-i
invariant-loop-i g l = number_among (l.i + 1) (map bytes_seen (drop l.i l.self.numbers.items)) l.name ≡ number_among 1 (map bytes_seen l.self.numbers.items) l.name
