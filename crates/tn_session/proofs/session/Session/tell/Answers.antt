use Rattle.std.proofs.Common.{◌≡◌}
use Rattle.std.specs.Option.{option_map}
use Rattle.def_session.specs.Session.{event_reported}
use Rattle.tn_flags.specs.Views.{event_of}
use Rattle.tn_session.specs.Messages.{message_seen}
use Rattle.tn_session.specs.Sessions.{next_session}
use Rattle.tn_session.proofs.CallLemmas.{where_there, next_there}
use Rattle.tn_session.proofs.session.Session.tell.Goals as goal

pub returns-in-Ok-clause-reported : goal.returns-in-Ok-clause-reported
returns-in-Ok-clause-reported g c =
    where_there (λ v s. next_session s (event_reported s.state (event_of c.args.event.now)) ≡ (v, option_map message_seen c.in-Ok.message))
    _ c.args.self.now.state c.tell.new.self c.if-self.false
    (next_there c.args.self.now.state c.tell.new.self _ _ c.in-Ok.ensures.reported c.tell.ensures.functions)
