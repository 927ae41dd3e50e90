use Rattle.def_session.specs.Session.{event_reported}
use Rattle.tn_flags.specs.Views.{event_of}
use Rattle.tn_session.specs.EventSteps.{message_in}
use Rattle.tn_session.specs.Sessions.{value_in}
use Rattle.complete_session.proofs.Same.{same_given}
use Rattle.complete_session.proofs.session.tell.Goals as goal

pub returns-clause-ok : goal.returns-clause-ok
returns-clause-ok g c =
    same_given message_in (value_in c.args.one.now) (λ s. event_reported s.state (event_of c.args.event.now)) _ _ _ _ c.tell-first.ensures.reported
    (rw (← c.requires.sessions, ← c.requires.events) at c.tell-second.ensures.reported)
