use Rattle.std.proofs.Common.{◌≡◌, ◌+◌, ◌≤◌, length, drop}
use Rattle.tn_spec.specs.Views.{exprs_seen}
use Rattle.tn_compile.specs.Views.{code_left}
use Rattle.tn_compile.specs.Emissions.{exprs_emitted, tests_emitted}
use Rattle.tn_compile.proofs.exprs.+emit.Given as goal

abbrev pub invariant-emit_exprs-loop-i : goal.invariant-emit_exprs-loop-i
invariant-emit_exprs-loop-i g l = record {
  within : l.i ≤ length l.exprs.items;
  longer : length l.initial.code.items ≤ length l.code.items;
  emitted : code_left l.code ≡ exprs_emitted l.scene (exprs_seen (drop l.i l.exprs.items)) (l.free + l.i) (code_left l.initial.code);
}

abbrev pub decreases-emit_exprs-loop-i : goal.decreases-emit_exprs-loop-i
decreases-emit_exprs-loop-i g l = l.i

abbrev pub invariant-emit_tests-loop-i : goal.invariant-emit_tests-loop-i
invariant-emit_tests-loop-i g l = record {
  within : l.i ≤ length l.exprs.items;
  longer : length l.initial.code.items ≤ length l.code.items;
  emitted : code_left l.code ≡ tests_emitted l.scene l.stop.on_true (exprs_seen (drop l.i l.exprs.items)) l.free l.stop.left (code_left l.initial.code);
}

abbrev pub decreases-emit_tests-loop-i : goal.decreases-emit_tests-loop-i
decreases-emit_tests-loop-i g l = l.i
