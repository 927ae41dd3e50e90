use Rattle.def_explain.proofs.CauseOfEvents.{cause_where_nothing_told, cause_is_one, cause_is_computed}
use Rattle.def_explain.proofs.a_session_has_a_cause_or_tells.Goals as goal

pub returns : goal.returns
returns c = record { exactly = cause_where_nothing_told; one = cause_is_one; computed = cause_is_computed }
