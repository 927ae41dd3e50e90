use Rattle.std.proofs.Common.{◌≡◌, map, drop, length}
use Rattle.def_term.specs.Tree.{count}
use Rattle.def_spec.specs.Matching.{bind_each}
use Rattle.tn_guard.specs.Views.{list_view_seen}
use Rattle.tn_guard.proofs.Places.{rest_from}
use Rattle.tn_spec.specs.Views.{patterns_seen}
use Rattle.tn_head.specs.Views.{binding_seen}
use Rattle.tn_head.proofs.matching.+bind.Given as goal

abbrev pub invariant-bind_each-loop-i : goal.invariant-bind_each-loop-i
invariant-bind_each-loop-i g l = record {
  lengths : length l.patterns.items ≡ count (list_view_seen l.parts);
  rest : bind_each (patterns_seen (drop l.i l.patterns.items)) (rest_from l.i (list_view_seen l.parts)) (map binding_seen l.bound.items)
      ≡ bind_each (patterns_seen l.patterns.items) (list_view_seen l.parts) (map binding_seen l.initial.bound.items);
}
