use Rattle.def_greedy_run.proofs.GreedyRuns.{greedy_run_moves, greedy_run_is_admitted}
use Rattle.def_greedy_run.proofs.a_greedy_run_is_a_run.Goals as goal

pub returns : goal.returns
returns c = record { moves = greedy_run_moves; admitted = greedy_run_is_admitted }
