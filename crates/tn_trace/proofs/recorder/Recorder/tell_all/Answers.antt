use Rattle.std.proofs.Common.{◌∙◌, ap, map, subst}
use Rattle.tn_flags.specs.Views.{event_of}
use Rattle.tn_trace.specs.Recorders.{AreTracked}
use Rattle.tn_trace.specs.Tracks.{with_event, with_events, items_of_tracks, AreMore}
use Rattle.tn_trace.specs.declared.recorder.Recorder.{Recorder}
use Rattle.tn_trace.proofs.Places.{goes_on_more, all_sessions, all_given}
use Rattle.tn_trace.proofs.recorder.Recorder.tell_all.Goals as goal

pub loop-event-preserved : goal.loop-event-preserved
loop-event-preserved g c = (
  c.in_ok-tell.ensures.others ∙ ap (λ (q : Recorder _ _). record q { living = c.tell.new.self.living; slots = c.tell.new.self.slots; room = c.tell.new.self.room }) c.loop-event.invariant.0,
  λ o ts h.
      let inv = c.loop-event.invariant.1 o ts h in (
        map (with_event (event_of c.event-item.result)) inv.0,
        c.in_ok-tell.ensures.sessions o inv.0 inv.1,
        goes_on_more g.K.MessageSink.gives event_of ts inv.0 c.deref-event-items.result.now c.loop-event.event-index c.event-item.result c.args.given.now c.loop-event.given c.tell.new.given c.loop-event-test.true c.event-item.is (c.in_ok-tell.ensures.given o inv.0 inv.1) inv.2,
      ),
)

pub returns-clause-sessions : goal.returns-clause-sessions
returns-clause-sessions g c = λ o ts h.
    let inv = c.loop-event.invariant.1 o ts h in
    subst (λ us. AreTracked g.K.MessageSink.keeps o us c.loop-event.self)
    (all_sessions g.K.MessageSink.gives event_of ts inv.0 c.deref-event-items.result.now c.loop-event.event-index c.args.given.now c.loop-event.given c.loop-event-test.false inv.2 ∙ ap (λ es. with_events (map event_of es) ts) c.deref-event-items.ensures.value)
    inv.1

pub returns-clause-given : goal.returns-clause-given
returns-clause-given g c = λ o ts h.
    let inv = c.loop-event.invariant.1 o ts h in
    subst (λ es. AreMore g.K.MessageSink.gives (items_of_tracks (map event_of es) ts) c.args.given.now c.loop-event.given) c.deref-event-items.ensures.value
    (all_given g.K.MessageSink.gives event_of ts inv.0 c.deref-event-items.result.now c.loop-event.event-index c.args.given.now c.loop-event.given c.loop-event-test.false inv.2)
