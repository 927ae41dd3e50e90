use Rattle.def_greedy_run.proofs.GreedyRuns.{greedy_run_shows}
use Rattle.def_greedy_run.proofs.a_greedy_run_shows_a_trace.Goals as goal

pub returns : goal.returns
returns c = greedy_run_shows
