use Rattle.def_session.proofs.Life.{life_goes_by_events, event_keeps_the_phase}
use Rattle.def_session.proofs.a_session_knows_who_lives.Goals as goal

pub returns : goal.returns
returns c = record { life = life_goes_by_events; phase = event_keeps_the_phase }
