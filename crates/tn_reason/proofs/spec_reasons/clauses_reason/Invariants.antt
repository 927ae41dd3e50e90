use Rattle.std.proofs.Common.{◌≡◌, drop}
use Rattle.def_explain.specs.SpecReasons.{clause_reason, reason_after}
use Rattle.tn_term.specs.Views.{trees_of}
use Rattle.tn_spec.specs.Views.{dialect_of}
use Rattle.tn_reason.proofs.spec_reasons.clauses_reason.Given as goal

abbrev pub invariant-loop-i : goal.invariant-loop-i
invariant-loop-i g l =
    reason_after (clause_reason (dialect_of l.dialect)) l.i (trees_of (drop l.i l.terms.items)) ≡ reason_after (clause_reason (dialect_of l.dialect)) 0 (trees_of l.terms.items)
