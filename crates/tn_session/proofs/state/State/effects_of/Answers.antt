use Rattle.std.proofs.Common.{◌∙◌, ap}
use Rattle.def_node.specs.Event.{sent}
use Rattle.tn_term.specs.Views.{mfa_seen}
use Rattle.tn_term.specs.SharedTree.{shared_tree}
use Rattle.tn_flags.specs.Views.{class_of}
use Rattle.tn_session.specs.EventSteps.{evaluation}
use Rattle.tn_session.proofs.state.State.effects_of.Goals as goal

pub returns-in_ok-evaluated_send-in-Sent : goal.returns-in_ok-evaluated_send-in-Sent
returns-in_ok-evaluated_send-in-Sent g c =
    let a = c.in-Sent in
    rw a.is (c.in_ok-evaluated_send-in-Sent.ensures a.alive ∙ ap (λ t. evaluation c.args.self.now (sent a.pid t a.to a.alive)) c.term.ensures)

pub returns-in-Returned : goal.returns-in-Returned
returns-in-Returned g c = rw c.in-Returned.is (c.evaluated_return.ensures (mfa_seen c.in-Returned.mfa) (shared_tree c.in-Returned.value))

pub returns-in-Raised : goal.returns-in-Raised
returns-in-Raised g c = rw c.in-Raised.is (c.evaluated_raise.ensures (mfa_seen c.in-Raised.mfa) (class_of c.in-Raised.class) (shared_tree c.in-Raised.value))
