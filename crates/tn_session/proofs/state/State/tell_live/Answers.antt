use Rattle.std.proofs.Common.{◌∙◌, None, [], refl, sym, ap}
use Rattle.tn_flags.specs.Views.{event_of}
use Rattle.tn_session.specs.Views.{state_seen}
use Rattle.tn_session.specs.EventSteps.{effects_in}
use Rattle.tn_session.proofs.EventSteps.{told_is, live_case}
use Rattle.tn_session.proofs.state.State.tell_live.Goals as goal

pub returns-in_ok-tell_by-in-Some-clause-reported : goal.returns-in_ok-tell_by-in-Some-clause-reported
returns-in_ok-tell_by-in-Some-clause-reported g c =
    live_case (state_seen c.args.self.now) (state_seen c.inherit.new.self) (event_of c.args.event.now) _ _ c.inherit.ensures.state
    (sym (ap effects_in c.in-Some.is) ∙ c.in_ok-effects.ensures) c.in_ok-tell_by-in-Some.ensures.reported

pub returns-in_ok-finish-in-None-clause-reported : goal.returns-in_ok-finish-in-None-clause-reported
returns-in_ok-finish-in-None-clause-reported g c =
    live_case (state_seen c.args.self.now) (state_seen c.inherit.new.self) (event_of c.args.event.now) _ _ c.inherit.ensures.state
    (sym (ap effects_in c.in-None.is) ∙ c.in_ok-effects.ensures) (ap (λ s. told_is s None) (sym (c.in_ok-finish-in-None.ensures.state [] refl)))
