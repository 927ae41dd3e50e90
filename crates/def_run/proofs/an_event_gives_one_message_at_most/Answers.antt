use Rattle.def_run.proofs.Runs.{event_adds, command_adds}
use Rattle.def_run.proofs.an_event_gives_one_message_at_most.Goals as goal

pub returns : goal.returns
returns c = record { event = event_adds; command = command_adds }
