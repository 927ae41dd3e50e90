use Rattle.def_running_node.proofs.Signals.{error_exit_has_calls, signal_exit_has_calls, reported_exit_has_no_message, noproc_is_reported, lost_link_has_no_message}
use Rattle.def_running_node.proofs.an_error_has_its_calls_in_the_exit.Goals as goal

pub returns : goal.returns
returns c = record {
  error = error_exit_has_calls;
  signal = signal_exit_has_calls;
  once = reported_exit_has_no_message;
  noproc = noproc_is_reported;
  lost_link = lost_link_has_no_message;
}
