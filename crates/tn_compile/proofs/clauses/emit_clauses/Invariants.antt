use Rattle.std.proofs.Common.{◌≡◌, ◌≤◌, length, map, drop}
use Rattle.tn_spec.specs.Views.{clause_seen, dialect_of}
use Rattle.tn_compile.specs.Emissions.{clauses_emitted}
use Rattle.tn_compile.specs.Views.{code_left}
use Rattle.tn_compile.proofs.clauses.emit_clauses.Given as goal

abbrev pub invariant-loop-i : goal.invariant-loop-i
invariant-loop-i g l = record {
  within : l.i ≤ length l.clauses;
  emitted : code_left l.code ≡ clauses_emitted (dialect_of l.dialect) (map clause_seen (drop l.i l.clauses)) (code_left l.initial.code);
}

abbrev pub decreases-loop-i : goal.decreases-loop-i
decreases-loop-i g l = l.i
