use Rattle.std.proofs.Common.{subst, arith}
use Rattle.tn_trace.specs.declared.slot.Slot.{Slot}
use Rattle.tn_search.proofs.Places.{none_added, one_added, nothing_past, element_is}
use Rattle.tn_search.proofs.session_states.add_kept.Goals as goal

pub returns-then-place-slots : goal.returns-then-place-slots
returns-then-place-slots g c = none_added g.K.MessageSink.keeps c.args.place c.args.slots.now c.args.sinks.now.items (nothing_past c.args.slots.now c.args.place (omega (arith, c.if-place-slots.true)))

pub returns : goal.returns
returns g c =
    one_added g.K.MessageSink.keeps c.args.place c.args.slots.now c.index-slots-place.result c.args.sinks.now.items c.push.new.self.items c.in_ok-kept.kept
    (element_is c.args.slots.now c.args.place c.index-slots-place.result (omega (arith, c.if-place-slots.false)) c.index-slots-place.is) c.in_ok-push.ensures.items
    (λ ms h. c.in_ok-kept.ensures ms (subst (λ (s : Slot _ _). g.K.MessageSink.keeps s.kept ms) c.index-slots-place.is h))
