use Rattle.std.proofs.Common.{◌<◌, ◌≤◌, ◌∙◌, length, refl, arith}
use Rattle.std.proofs.Math.ListN.{length-set}
use Rattle.def_session.specs.State.{alive_after}
use Rattle.def_run.specs.Run.{event_item}
use Rattle.def_message_choice.specs.MessageChoices.{chooses}
use Rattle.tn_flags.specs.Views.{event_of}
use Rattle.tn_message_choice.specs.Choices.{choice_seen, session_asked}
use Rattle.tn_message_choice.proofs.SideBySide.{none_tried, more_tried, all_tried}
use Rattle.tn_message_choice.proofs.slots.see_each.Goals as goal

pub loop-place-init : goal.loop-place-init
loop-place-init g c =
    let e = event_of c.args.event.now in
    let q = c.args.question.now in
    record {
      size = refl;
      one = λ o living ss h same. none_tried o living (alive_after living e) (event_item e) ss (chooses (choice_seen q.choice) (session_asked q) (event_item e)) c.args.slots.now.items h;
    }

pub loop-place-preserved : goal.loop-place-preserved
loop-place-preserved g c =
    let l = c.loop-place in
    let e = event_of c.args.event.now in
    let q = c.args.question.now in
    let v_len = c.args.slots.now.ok.0 in
    let last = c.len-place-end.ensures in
    let below : l.place < length l.slots.items = omega (arith, v_len, last, l.invariant.size) in
    record {
      size = length-set l.slots.items l.place c.see_one.new.slot ∙ l.invariant.size;
      one = λ o living ss h same.
          more_tried o living (alive_after living e) (event_item e) ss (chooses (choice_seen q.choice) (session_asked q) (event_item e)) l.place l.slots.items c.index_mut.result.now c.see_one.new.slot l.one_chooses c.in_ok-chooses.chooses below c.index_mut.ensures.value
          (λ s at. c.in_ok-chooses.ensures o living s at same) (l.invariant.one o living ss h same);
    }

pub returns : goal.returns
returns g c = λ o living ss h same.
    let l = c.loop-place in
    let e = event_of c.args.event.now in
    let q = c.args.question.now in
    let v_len = c.args.slots.now.ok.0 in
    let last = c.len-place-end.ensures in
    let past = c.loop-place-test.false in
    let all : length l.slots.items ≤ l.place = omega (arith, v_len, last, l.invariant.size) in
    all_tried o living (alive_after living e) (event_item e) ss (chooses (choice_seen q.choice) (session_asked q) (event_item e)) l.place l.slots.items l.one_chooses all (l.invariant.one o living ss h same)
