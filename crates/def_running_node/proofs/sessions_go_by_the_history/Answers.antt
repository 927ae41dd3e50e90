use Rattle.def_running_node.proofs.SessionsHere.{sessions_here_at_start, sessions_here_go_by_history, session_there_goes_by_events, session_there_goes_by_commands}
use Rattle.def_running_node.proofs.sessions_go_by_the_history.Goals as goal

pub returns : goal.returns
returns c = record {
  start = sessions_here_at_start;
  here = sessions_here_go_by_history;
  there_by_events = session_there_goes_by_events;
  there_by_commands = session_there_goes_by_commands;
}
