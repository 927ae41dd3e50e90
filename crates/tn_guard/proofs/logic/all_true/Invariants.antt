use Rattle.std.proofs.Common.{◌≡◌, map, drop}
use Rattle.def_spec.specs.Functions.{all_true}
use Rattle.tn_guard.specs.Views.{value_seen}
use Rattle.tn_guard.proofs.logic.all_true.Given as goal

abbrev pub invariant-loop-value : goal.invariant-loop-value
invariant-loop-value g l = all_true (map value_seen (drop l.value-index l.values)) ≡ all_true (map value_seen l.values)
