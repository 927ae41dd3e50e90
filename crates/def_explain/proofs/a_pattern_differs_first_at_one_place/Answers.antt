use Rattle.def_explain.proofs.Mismatches.{mismatch_where_not_matched, mismatch_is_one, mismatch_is_computed}
use Rattle.def_explain.proofs.a_pattern_differs_first_at_one_place.Goals as goal

pub returns : goal.returns
returns c = record { exactly = mismatch_where_not_matched; one = mismatch_is_one; computed = mismatch_is_computed }
