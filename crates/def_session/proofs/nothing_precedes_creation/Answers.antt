use Rattle.def_session.proofs.Life.{creation_makes_live, command_before_creation, event_before_creation}
use Rattle.def_session.proofs.nothing_precedes_creation.Goals as goal

pub returns : goal.returns
returns c = record { creation = creation_makes_live; command = command_before_creation; event = event_before_creation }
