use Rattle.std.proofs.Common.{arith, sym, subst}
use Rattle.tn_trace.specs.declared.slot.Slot.{Slot}
use Rattle.tn_search.specs.Sessions.{IsFreeSession}
use Rattle.tn_search.proofs.FreeSessions.{free_past, free_here}
use Rattle.tn_search.proofs.session_states.is_free_at.Goals as goal

pub returns-then-place-slots : goal.returns-then-place-slots
returns-then-place-slots g c = λ h. free_past g.K.MessageSink.keeps c.args.pid c.args.slots.now c.args.place (omega (arith, c.if-place-slots.true))

pub returns : goal.returns
returns g c = λ h.
    let slot = c.index-slots-place.result in
    let free = subst (λ (x : Slot g.row.A.Denot g.row.K.Denot). IsFreeSession c.args.pid x.session c.is_free_session.result) (sym c.index-slots-place.is) c.is_free_session.ensures in
    free_here g.K.MessageSink.keeps c.args.pid c.args.slots.now c.args.place slot c.is_free_session.result (omega (arith, c.if-place-slots.false)) c.index-slots-place.is free h
