use Rattle.def_explain.proofs.ClauseReasons.{head_reason_where_not_matched}
use Rattle.def_explain.proofs.a_head_has_a_reason_or_matches.Goals as goal

pub returns : goal.returns
returns c = head_reason_where_not_matched
