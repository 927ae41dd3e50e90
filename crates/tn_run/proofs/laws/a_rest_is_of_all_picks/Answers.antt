use Rattle.tn_run.proofs.RestLemmas.{rest_is_of_all_picks}
use Rattle.tn_run.proofs.laws.a_rest_is_of_all_picks.Goals as goal

pub returns : goal.returns
returns c = rest_is_of_all_picks
