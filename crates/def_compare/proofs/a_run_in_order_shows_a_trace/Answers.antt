use Rattle.def_compare.proofs.InOrder.{run_in_order_shows}
use Rattle.def_compare.proofs.a_run_in_order_shows_a_trace.Goals as goal

pub returns : goal.returns
returns c = run_in_order_shows
