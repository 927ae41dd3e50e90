use Rattle.def_explain.proofs.Limits.{limit_is_said, only_limits_are_said}
use Rattle.def_explain.proofs.a_limit_is_said_where_it_is_passed.Goals as goal

pub returns-clause-said : goal.returns-clause-said
returns-clause-said c = limit_is_said

pub returns-clause-only : goal.returns-clause-only
returns-clause-only c = only_limits_are_said
