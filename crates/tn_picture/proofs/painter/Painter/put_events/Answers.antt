use Rattle.def_run.specs.Run.{event_item}
use Rattle.def_run.specs.History.{all_after}
use Rattle.tn_flags.specs.Views.{event_of}
use Rattle.tn_picture.specs.Painters.{rows_seen}
use Rattle.tn_picture.proofs.PaintedMoves.{none_painted, more_painted, all_painted, items_of}
use Rattle.tn_picture.proofs.painter.Painter.put_events.Goals as goal

pub loop-event-init : goal.loop-event-init
loop-event-init g c = λ o ss h. (ss, h, none_painted o c.args.number ss (items_of event_of c.deref-event-items.result.now) (rows_seen c.args.rows.now))

pub loop-event-preserved : goal.loop-event-preserved
loop-event-preserved g c =
    let l = c.loop-event in
    let e = c.event-item.result in
    λ o ss h.
    let inv = l.invariant o ss h in
    let made = c.in_ok-put_event.ensures o inv.0 inv.1 in (
      all_after o inv.0 (event_item (event_of e)),
      made.0,
      more_painted event_of o c.args.number ss inv.0 c.deref-event-items.result.now l.event-index e (rows_seen c.args.rows.now) (rows_seen l.rows) (rows_seen c.put_event.new.rows) c.loop-event-test.true c.event-item.is made.1 inv.2,
    )

pub returns : goal.returns
returns g c = λ o ss h.
    let l = c.loop-event in
    let inv = l.invariant o ss h in
    all_painted event_of o c.args.number ss inv.0 c.deref-event-items.result.now c.args.events.now.items l.event-index l.self (rows_seen c.args.rows.now) (rows_seen l.rows) c.deref-event-items.ensures.value c.loop-event-test.false inv.1 inv.2
