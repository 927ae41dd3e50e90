use Rattle.std.proofs.Common.{subst}
use Rattle.def_session.specs.State.{alive_after}
use Rattle.tn_flags.specs.Views.{event_of}
use Rattle.tn_session.specs.EventTexts.{event_in}
use Rattle.tn_trace.specs.Events.{Sees, HandsOut}
use Rattle.tn_trace.specs.Tracks.{reported_to, with_event}
use Rattle.complete_runs.proofs.SameSlots.{both_more, both_tracked}
use Rattle.complete_runs.proofs.slot.tell.Goals as goal

pub returns-clause-tracked : goal.returns-clause-tracked
returns-clause-tracked g c =
    let P = c.requires.1.1 in
    let e = event_of (event_in c.args.text.now) in
    let second = subst (λ x. Sees g.K.MessageSink.keeps x c.args.other.now c.tell-second.new.self c.tell-second.result) c.tell-first.ensures.event c.tell-second.ensures.tracked in
    both_tracked g.K.MessageSink.keeps g.at.0 (alive_after g.at.1 e) (with_event e g.at.2) _ _ _ _
    (c.tell-first.ensures.tracked g.at.0 g.at.1 g.at.2 P.0) (second g.at.0 g.at.1 g.at.2 P.1.0)

pub returns-clause-given : goal.returns-clause-given
returns-clause-given g c =
    let P = c.requires.1.1 in
    let e = event_of (event_in c.args.text.now) in
    let second = subst (λ x. HandsOut g.K.MessageSink.keeps g.K.MessageSink.gives x c.args.other.now c.args.same_given.now c.tell-second.new.given c.tell-second.result) c.tell-first.ensures.event c.tell-second.ensures.given in
    both_more g.K.MessageSink.gives (reported_to e g.at.2) g.at.3 _ _ _ _ _ _ P.1.1.0 P.1.1.1
    (c.tell-first.ensures.given g.at.0 g.at.1 g.at.2 P.0) (second g.at.0 g.at.1 g.at.2 P.1.0)
