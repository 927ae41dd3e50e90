use Rattle.std.proofs.Common.{◌<◌, ◌≤◌, ◌∙◌, length, refl, arith}
use Rattle.std.proofs.Math.ListN.{length-set}
use Rattle.def_run.specs.Run.{command_item}
use Rattle.tn_term.specs.Views.{alive_of}
use Rattle.tn_flags.specs.Views.{command_of}
use Rattle.tn_picture.proofs.SlotMessages.{none_yet, one_more_sees, all_by_now}
use Rattle.tn_picture.proofs.slots.obey_each.Goals as goal

pub loop-place-init : goal.loop-place-init
loop-place-init g c = record {
  size = refl;
  made = λ o fs ss h. none_yet o (alive_of c.args.living) (alive_of c.args.living) (command_item (command_of c.args.command.now)) ss c.args.slots.now.items h;
}

pub loop-place-preserved : goal.loop-place-preserved
loop-place-preserved g c =
    let l = c.loop-place in
    let living = alive_of c.args.living in
    let v_len = c.args.slots.now.ok.0 in
    let last = c.len-place-end.ensures in
    let below : l.place < length l.slots.items = omega (arith, v_len, last, l.invariant.size) in
    record {
      size = length-set l.slots.items l.place c.obey_one.new.slot ∙ l.invariant.size;
      made = λ o fs ss h.
          one_more_sees o living living (command_item (command_of c.args.command.now)) ss l.place l.slots.items c.index_mut.result.now c.obey_one.new.slot below c.index_mut.ensures.value
          (λ s at. c.in_ok-obey_one.ensures o fs s at) (l.invariant.made o fs ss h);
    }

pub returns : goal.returns
returns g c = λ o fs ss h.
    let l = c.loop-place in
    let living = alive_of c.args.living in
    let v_len = c.args.slots.now.ok.0 in
    let last = c.len-place-end.ensures in
    let past = c.loop-place-test.false in
    let all : length l.slots.items ≤ l.place = omega (arith, v_len, last, l.invariant.size) in
    all_by_now o living living (command_item (command_of c.args.command.now)) ss l.place l.slots.items all (l.invariant.made o fs ss h)
