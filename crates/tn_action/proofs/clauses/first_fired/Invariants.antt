use Rattle.std.proofs.Common.{◌≡◌, map, drop}
use Rattle.def_spec.specs.Outcome.{outcome_in}
use Rattle.tn_spec.specs.Views.{dialect_of, clause_seen}
use Rattle.tn_action.specs.Views.{context_seen}
use Rattle.tn_action.proofs.clauses.first_fired.Given as goal

abbrev pub invariant-loop-clause : goal.invariant-loop-clause
invariant-loop-clause g l = outcome_in (dialect_of l.spec.dialect) (map clause_seen (drop l.clause-index l.clause-items)) (context_seen l.context)
    ≡ outcome_in (dialect_of l.spec.dialect) (map clause_seen l.spec.clauses.items) (context_seen l.context)
