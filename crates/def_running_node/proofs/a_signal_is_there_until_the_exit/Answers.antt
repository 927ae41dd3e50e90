use Rattle.def_running_node.proofs.Signals.{alive_goes_by_events, abnormal_exit_gives_signal, normal_exit_gives_none, noproc_gives_signal, first_signal_counts, no_signal_after_exit, other_move_is_not_determined, move_with_signal_changes_nothing}
use Rattle.def_running_node.proofs.a_signal_is_there_until_the_exit.Goals as goal

pub returns : goal.returns
returns c = record {
  alive = alive_goes_by_events;
  abnormal = abnormal_exit_gives_signal;
  normal = normal_exit_gives_none;
  noproc = noproc_gives_signal;
  first = first_signal_counts;
  exit = no_signal_after_exit;
  other_move = other_move_is_not_determined;
  own_move = move_with_signal_changes_nothing;
}
