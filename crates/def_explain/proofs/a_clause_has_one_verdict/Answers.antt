use Rattle.def_explain.proofs.ClauseVerdicts.{verdict_is_computed, outcome_is_by_verdicts}
use Rattle.def_explain.proofs.a_clause_has_one_verdict.Goals as goal

pub returns : goal.returns
returns c = record { computed = verdict_is_computed; outcome = outcome_is_by_verdicts }
