use Rattle.def_random_run.proofs.RandomRuns.{random_run_is_bounded, random_run_rests, pass_is_at_rest}
use Rattle.def_random_run.proofs.a_random_run_goes_to_rest.Goals as goal

pub returns : goal.returns
returns c = record { bounded = random_run_is_bounded; rests = random_run_rests; pass = pass_is_at_rest }
