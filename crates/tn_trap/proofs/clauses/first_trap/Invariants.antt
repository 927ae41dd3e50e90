use Rattle.std.proofs.Common.{◌≡◌, drop, map}
use Rattle.def_trap.specs.Traps.{trap_after}
use Rattle.tn_spec.specs.Views.{clause_seen, dialect_of}
use Rattle.tn_trap.proofs.clauses.first_trap.Given as goal

-- none of the clauses so far has a trap
abbrev pub invariant-loop-before : goal.invariant-loop-before
invariant-loop-before g l =
    trap_after (dialect_of l.dialect) l.lengths l.before (map clause_seen (drop l.before l.clauses.items)) ≡ trap_after (dialect_of l.dialect) l.lengths 0 (map clause_seen l.clauses.items)
