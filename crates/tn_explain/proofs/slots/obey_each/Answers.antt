use Rattle.std.proofs.Common.{◌<◌, ◌≤◌, ◌∙◌, length, refl, arith}
use Rattle.std.proofs.Math.ListN.{length-set}
use Rattle.def_run.specs.Run.{command_item}
use Rattle.tn_term.specs.Views.{alive_of}
use Rattle.tn_flags.specs.Views.{command_of}
use Rattle.tn_explain.proofs.SideBySide.{none_made, more_made, all_made}
use Rattle.tn_explain.proofs.MoveTexts.{not_yet}
use Rattle.tn_explain.proofs.slots.obey_each.Goals as goal
use Rattle.tn_text.proofs.Growth.{grows_on}

pub loop-place-init : goal.loop-place-init
loop-place-init g c = record {
  size = refl;
  grows = not_yet c.args.out.now.items;
  made = λ o fs ss h.
      none_made c.args.step.now o (alive_of c.args.order.now.living) (alive_of c.args.order.now.living) (command_item (command_of c.args.order.now.command.now)) ss c.args.slots.now.items c.args.out.now.items h;
}

pub loop-place-preserved : goal.loop-place-preserved
loop-place-preserved g c =
    let l = c.loop-place in
    let living = alive_of c.args.order.now.living in
    let k = command_of c.args.order.now.command.now in
    let v_len = c.args.slots.now.ok.0 in
    let last = c.len-place-end.ensures in
    let below : l.place < length l.slots.items = omega (arith, v_len, last, l.invariant.size) in
    record {
      size = length-set l.slots.items l.place c.obey_one.new.slot ∙ l.invariant.size;
      grows = grows_on l.invariant.grows c.obey_one.ensures.grows;
      made = λ o fs ss h.
          more_made c.args.step.now o living living (command_item k) ss l.place l.slots.items c.index_mut.result.now c.obey_one.new.slot c.args.out.now.items l.out.items c.obey_one.new.out.items below c.index_mut.ensures.value
          (λ s at. c.in_ok-obey_one.ensures.ok o fs s at) (l.invariant.made o fs ss h);
    }

pub returns-clause-ok : goal.returns-clause-ok
returns-clause-ok g c = λ o fs ss h.
    let l = c.loop-place in
    let living = alive_of c.args.order.now.living in
    let k = command_of c.args.order.now.command.now in
    let v_len = c.args.slots.now.ok.0 in
    let last = c.len-place-end.ensures in
    let past = c.loop-place-test.false in
    let all : length l.slots.items ≤ l.place = omega (arith, v_len, last, l.invariant.size) in
    all_made c.args.step.now o living living (command_item k) ss l.place l.slots.items c.args.out.now.items l.out.items all (l.invariant.made o fs ss h)
