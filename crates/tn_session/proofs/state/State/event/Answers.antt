use Rattle.std.proofs.Common.{◌∙◌, Some, sym, ap}
use Rattle.tn_session.specs.Views.{state_seen}
use Rattle.tn_session.specs.EventSteps.{event_result}
use Rattle.tn_session.proofs.state.State.event.Goals as goal

pub returns-in-Some-clause-reported : goal.returns-in-Some-clause-reported
returns-in-Some-clause-reported g c =
    c.in_ok-message.ensures.reported ∙ ap (event_result c.tell.new.self) c.in-Some.is ∙ ap (λ t. (state_seen c.tell.new.self, Some t)) (sym c.in_ok-term-in-Some.ensures)

pub returns-clause-reported : goal.returns-clause-reported
returns-clause-reported g c = c.in_ok-message.ensures.reported ∙ ap (event_result c.tell.new.self) c.in-None.is
