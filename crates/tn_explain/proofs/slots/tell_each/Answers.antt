use Rattle.std.proofs.Common.{◌<◌, ◌≤◌, ◌∙◌, length, refl, arith}
use Rattle.std.proofs.Math.ListN.{length-set}
use Rattle.def_session.specs.State.{alive_after}
use Rattle.def_run.specs.Run.{event_item}
use Rattle.tn_flags.specs.Views.{event_of}
use Rattle.tn_explain.proofs.SideBySide.{none_made, more_made, all_made}
use Rattle.tn_explain.proofs.MoveTexts.{not_yet}
use Rattle.tn_explain.proofs.slots.tell_each.Goals as goal
use Rattle.tn_text.proofs.Growth.{grows_on}

pub loop-place-init : goal.loop-place-init
loop-place-init g c = record {
  size = refl;
  grows = not_yet c.args.out.now.items;
  made = λ o living ss h. none_made c.args.step.now o living (alive_after living (event_of c.args.event.now)) (event_item (event_of c.args.event.now)) ss c.args.slots.now.items c.args.out.now.items h;
}

pub loop-place-preserved : goal.loop-place-preserved
loop-place-preserved g c =
    let l = c.loop-place in
    let e = event_of c.args.event.now in
    let v_len = c.args.slots.now.ok.0 in
    let last = c.len-place-end.ensures in
    let below : l.place < length l.slots.items = omega (arith, v_len, last, l.invariant.size) in
    record {
      size = length-set l.slots.items l.place c.tell_one.new.slot ∙ l.invariant.size;
      grows = grows_on l.invariant.grows c.tell_one.ensures.grows;
      made = λ o living ss h.
          more_made c.args.step.now o living (alive_after living e) (event_item e) ss l.place l.slots.items c.index_mut.result.now c.tell_one.new.slot c.args.out.now.items l.out.items c.tell_one.new.out.items below c.index_mut.ensures.value
          (λ s at. c.in_ok-tell_one.ensures.ok o living s at) (l.invariant.made o living ss h);
    }

pub returns-clause-ok : goal.returns-clause-ok
returns-clause-ok g c = λ o living ss h.
    let l = c.loop-place in
    let e = event_of c.args.event.now in
    let v_len = c.args.slots.now.ok.0 in
    let last = c.len-place-end.ensures in
    let past = c.loop-place-test.false in
    let all : length l.slots.items ≤ l.place = omega (arith, v_len, last, l.invariant.size) in
    all_made c.args.step.now o living (alive_after living e) (event_item e) ss l.place l.slots.items c.args.out.now.items l.out.items all (l.invariant.made o living ss h)
