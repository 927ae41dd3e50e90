use Rattle.std.proofs.Common.{◌≡◌, ◌<◌, ◌≤◌, ◌∙◌, flat_map, length, refl, subst, arith}
use Rattle.std.proofs.Math.ListN.{length-set}
use Rattle.def_session.specs.State.{alive_after}
use Rattle.tn_flags.specs.Views.{event_of}
use Rattle.tn_session.specs.EventTexts.{event_in}
use Rattle.tn_trace.specs.Tracks.{with_event, reported_to, AreMore}
use Rattle.tn_trace.specs.Slots.{IsTracked}
use Rattle.tn_trace.proofs.Places.{up_to_none, up_to_all, all_taken, each_mapped, place_here, more_here, none_more}
use Rattle.tn_trace.proofs.sessions.tell_each.Goals as goal

pub loop-place-init : goal.loop-place-init
loop-place-init g c = (
  refl,
  c.new-text.ensures,
  λ o living ts h. (
    up_to_none (λ t s. IsTracked g.K.MessageSink.keeps o (alive_after living (event_of c.args.event.now)) (with_event (event_of c.args.event.now) t) s) (IsTracked g.K.MessageSink.keeps o living) ts c.args.slots.now.items h,
    none_more g.K.MessageSink.gives c.args.given.now,
  ),
)

pub loop-place-preserved : goal.loop-place-preserved
loop-place-preserved g c =
    let l = c.loop-place in
    let e = event_of c.args.event.now in
    let v_len = c.args.slots.now.ok.0 in
    let last = c.len-place-end.ensures in
    let event_is : event_in l.text ≡ c.args.event.now = l.invariant.1 in
    let below : l.place < length l.slots.items = omega (arith, v_len, last, l.invariant.0) in (
      length-set l.slots.items l.place c.tell.new.self ∙ l.invariant.0,
      c.in_ok-tell.ensures.event ∙ event_is,
      λ o living ts h.
          let inv = l.invariant.2 o living ts h in
          let here = place_here (λ t s. IsTracked g.K.MessageSink.keeps o (alive_after living e) (with_event e t) s) (IsTracked g.K.MessageSink.keeps o living) l.place ts l.slots.items c.index_mut.result.now c.tell.new.self below c.index_mut.ensures.value inv.0 in (
            here.after (subst (λ x. IsTracked g.K.MessageSink.keeps o (alive_after living (event_of x)) (with_event (event_of x) here.here) c.tell.new.self) event_is (c.in_ok-tell.ensures.tracked o living here.here here.before)),
            more_here g.K.MessageSink.gives (reported_to e) l.place ts here.here c.args.given.now l.given c.tell.new.given here.front inv.1
                (subst (λ x. AreMore g.K.MessageSink.gives (reported_to (event_of x) here.here) l.given c.tell.new.given) event_is (c.in_ok-tell.ensures.given o living here.here here.before)),
          ),
    )

pub returns-clause-sessions : goal.returns-clause-sessions
returns-clause-sessions g c = λ o living ts h.
    let l = c.loop-place in
    let e = event_of c.args.event.now in
    let v_len = c.args.slots.now.ok.0 in
    let last = c.len-place-end.ensures in
    let past = c.loop-place-test.false in
    let all : length l.slots.items ≤ l.place = omega (arith, v_len, last, l.invariant.0) in
    each_mapped (IsTracked g.K.MessageSink.keeps o (alive_after living e)) (with_event e) ts l.slots.items
    (up_to_all (λ t s. IsTracked g.K.MessageSink.keeps o (alive_after living e) (with_event e t) s) (IsTracked g.K.MessageSink.keeps o living) l.place ts l.slots.items all (l.invariant.2 o living ts h).0)

pub returns-clause-given : goal.returns-clause-given
returns-clause-given g c = λ o living ts h.
    let l = c.loop-place in
    let e = event_of c.args.event.now in
    let v_len = c.args.slots.now.ok.0 in
    let last = c.len-place-end.ensures in
    let past = c.loop-place-test.false in
    let all : length l.slots.items ≤ l.place = omega (arith, v_len, last, l.invariant.0) in
    subst (λ us. AreMore g.K.MessageSink.gives (flat_map (reported_to e) us) c.args.given.now l.given)
    (all_taken (λ t s. IsTracked g.K.MessageSink.keeps o (alive_after living e) (with_event e t) s) (IsTracked g.K.MessageSink.keeps o living) l.place ts l.slots.items all (l.invariant.2 o living ts h).0)
    (l.invariant.2 o living ts h).1
