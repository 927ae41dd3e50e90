use Rattle.std.proofs.Common.{◌<◌, ◌≤◌, ◌∙◌, length, refl, arith}
use Rattle.std.proofs.Math.ListN.{length-set}
use Rattle.def_session.specs.State.{alive_after}
use Rattle.def_run.specs.Run.{event_item}
use Rattle.tn_flags.specs.Views.{event_of}
use Rattle.tn_picture.specs.Slots.{reports_seen}
use Rattle.tn_picture.proofs.SlotMessages.{none_reported, more_reported, all_reported}
use Rattle.tn_picture.proofs.slots.report_each.Goals as goal

pub loop-place-init : goal.loop-place-init
loop-place-init g c = record {
  size = refl;
  made = λ o living ss h. none_reported o living (alive_after living (event_of c.args.event.now)) (event_item (event_of c.args.event.now)) ss c.args.slots.now.items (reports_seen c.args.reports.now) h;
}

pub loop-place-preserved : goal.loop-place-preserved
loop-place-preserved g c =
    let l = c.loop-place in
    let e = event_of c.args.event.now in
    let v_len = c.args.slots.now.ok.0 in
    let last = c.len-place-end.ensures in
    let below : l.place < length l.slots.items = omega (arith, v_len, last, l.invariant.size) in
    record {
      size = length-set l.slots.items l.place c.report_one.new.slot ∙ l.invariant.size;
      made = λ o living ss h.
          more_reported o living (alive_after living e) (event_item e) ss l.place l.slots.items c.index_mut.result.now c.report_one.new.slot (reports_seen c.args.reports.now) (reports_seen l.reports) (reports_seen c.report_one.new.reports) below c.index_mut.ensures.value
          (λ s at. c.in_ok-report_one.ensures o living s at) (l.invariant.made o living ss h);
    }

pub returns : goal.returns
returns g c = λ o living ss h.
    let l = c.loop-place in
    let e = event_of c.args.event.now in
    let v_len = c.args.slots.now.ok.0 in
    let last = c.len-place-end.ensures in
    let past = c.loop-place-test.false in
    let all : length l.slots.items ≤ l.place = omega (arith, v_len, last, l.invariant.size) in
    all_reported o living (alive_after living e) (event_item e) ss l.place l.slots.items (reports_seen c.args.reports.now) (reports_seen l.reports) all (l.invariant.made o living ss h)
