use Rattle.def_explain.proofs.ClauseReasons.{reason_where_not_fired, reason_is_one, reason_is_computed}
use Rattle.def_explain.proofs.a_clause_has_a_reason_or_fires.Goals as goal

pub returns : goal.returns
returns c = record { exactly = reason_where_not_fired; one = reason_is_one; computed = reason_is_computed }
