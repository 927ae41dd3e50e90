use Rattle.std.proofs.Common.{◌≡◌, drop}
use Rattle.def_trap.specs.Traps.{first_in_body}
use Rattle.tn_spec.specs.Views.{dialect_of, exprs_seen}
use Rattle.tn_trap.proofs.clauses.first_in_body.Given as goal

-- none of the expressions so far is a trap
abbrev pub invariant-loop-before : goal.invariant-loop-before
invariant-loop-before g l =
    first_in_body (dialect_of l.dialect) l.before (exprs_seen (drop l.before l.body.items)) ≡ first_in_body (dialect_of l.dialect) 0 (exprs_seen l.body.items)
