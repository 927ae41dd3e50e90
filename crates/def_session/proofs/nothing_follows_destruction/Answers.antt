use Rattle.def_session.proofs.DestroyedSessions.{destruction, event_after, command_after, destroyed_again}
use Rattle.def_session.proofs.nothing_follows_destruction.Goals as goal

pub returns : goal.returns
returns c = record { destruction = destruction; event = event_after; command = command_after; again = destroyed_again }
