use Rattle.std.proofs.Common.{◌∙◌, None, sym, ap}
use Rattle.def_session.specs.Session.{reported_in}
use Rattle.tn_flags.specs.Views.{event_of}
use Rattle.tn_session.specs.Views.{phase_seen, state_seen}
use Rattle.tn_session.proofs.EventSteps.{told_is}
use Rattle.tn_session.proofs.state.State.tell.Goals as goal

pub returns-in_ok-tell_live-in-Live-clause-reported : goal.returns-in_ok-tell_live-in-Live-clause-reported
returns-in_ok-tell_live-in-Live-clause-reported g c =
    ap (λ p. reported_in (phase_seen p) (state_seen c.args.self.now) (event_of c.args.event.now)) c.in-Live.is ∙ c.in_ok-tell_live-in-Live.ensures.reported

pub returns-in-Destroyed-clause-reported : goal.returns-in-Destroyed-clause-reported
returns-in-Destroyed-clause-reported g c =
    ap (λ p. reported_in (phase_seen p) (state_seen c.args.self.now) (event_of c.args.event.now)) c.in-Destroyed.is ∙ ap (λ s. told_is s None) (sym c.follow.ensures.state)
