use Rattle.def_random_run.proofs.RandomEntries.{random_states_are_bounded}
use Rattle.def_random_run.proofs.random_states_are_bounded.Goals as goal

pub returns : goal.returns
returns c = random_states_are_bounded
