use Rattle.std.proofs.Common.{◌≡◌, map, drop}
use Rattle.def_spec.specs.Matching.{value_bound}
use Rattle.tn_head.specs.Views.{binding_seen}
use Rattle.tn_mismatch.proofs.bindings.value_of.Given as goal

abbrev pub invariant-loop-binding : goal.invariant-loop-binding
invariant-loop-binding g l = value_bound (map binding_seen (drop l.binding-index l.bindings)) l.number ≡ value_bound (map binding_seen l.bindings) l.number
