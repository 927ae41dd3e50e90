use Rattle.std.proofs.Common.{◌≡◌, map, drop, length}
use Rattle.def_term.specs.Tree.{count}
use Rattle.def_spec.specs.Matching.{bind_each}
use Rattle.def_explain.specs.Mismatches.{mismatch_in}
use Rattle.tn_guard.specs.Views.{list_view_seen}
use Rattle.tn_guard.proofs.Places.{rest_from}
use Rattle.tn_spec.specs.Views.{patterns_seen}
use Rattle.tn_head.specs.Views.{binding_seen}
use Rattle.tn_mismatch.proofs.walk.+mismatch.Given as goal

abbrev pub invariant-mismatch_in-loop-i : goal.invariant-mismatch_in-loop-i
invariant-mismatch_in-loop-i g l = record {
  lengths : length l.patterns.items ≡ count (list_view_seen l.parts);
  rest : mismatch_in l.i (patterns_seen (drop l.i l.patterns.items)) (rest_from l.i (list_view_seen l.parts)) (map binding_seen l.bound.items)
      ≡ mismatch_in 0 (patterns_seen l.patterns.items) (list_view_seen l.parts) (map binding_seen l.initial.bound.items);
  bound : bind_each (patterns_seen (drop l.i l.patterns.items)) (rest_from l.i (list_view_seen l.parts)) (map binding_seen l.bound.items)
      ≡ bind_each (patterns_seen l.patterns.items) (list_view_seen l.parts) (map binding_seen l.initial.bound.items);
}
