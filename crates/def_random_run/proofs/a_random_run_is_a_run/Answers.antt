use Rattle.def_random_run.proofs.RandomRuns.{random_run_moves}
use Rattle.def_random_run.proofs.a_random_run_is_a_run.Goals as goal

pub returns : goal.returns
returns c = random_run_moves
