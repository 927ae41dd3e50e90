use Rattle.std.proofs.Common.{◌≡◌, drop}
use Rattle.def_explain.specs.Places.{stop_after}
use Rattle.tn_term.specs.Views.{trees_of}
use Rattle.tn_spec.specs.Views.{dialect_of}
use Rattle.tn_verdict.proofs.spec_test_input.stop.Given as goal

abbrev pub invariant-loop-i : goal.invariant-loop-i
invariant-loop-i g l = stop_after (dialect_of l.dialect) l.i (trees_of (drop l.i l.elements.items)) ≡ stop_after (dialect_of l.dialect) 0 (trees_of l.elements.items)
