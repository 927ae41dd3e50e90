use Rattle.std.proofs.Common.{◌≡◌, ◌∙◌, length, ap, arith}
use Rattle.std.specs.Prelude.{sum_by}
use Rattle.std.proofs.lemmas.List.{take_all}
use Rattle.tn_trace.proofs.Bounds.{slot_bytes, slots_counted, counted_more, too_many}
use Rattle.tn_trace.proofs.bound.is_longer.Goals as goal

pub loop-slot-preserved : goal.loop-slot-preserved
loop-slot-preserved g c =
    let l = c.loop-slot in
    let slot = c.slot-item.result in
    let bytes : c.len-bytes.result ≡ length slot.kept.text.items = omega (arith, c.len-bytes.ensures, slot.kept.text.ok.0) in
    counted_more c.args.slots.now l.slot-index c.len-bytes.result c.args.most l.room slot c.loop-slot-test.true (bytes ∙ ap slot_bytes c.slot-item.is) l.invariant c.if-bytes-room.false

pub returns-then-bytes-room-clause-longer : goal.returns-then-bytes-room-clause-longer
returns-then-bytes-room-clause-longer g c = λ is.
    let l = c.loop-slot in
    let slot = c.slot-item.result in
    let bytes : c.len-bytes.result ≡ length slot.kept.text.items = omega (arith, c.len-bytes.ensures, slot.kept.text.ok.0) in
    too_many c.args.slots.now l.slot-index c.len-bytes.result c.args.most l.room slot c.loop-slot-test.true (bytes ∙ ap slot_bytes c.slot-item.is) l.invariant c.if-bytes-room.true

pub returns-clause-within : goal.returns-clause-within
returns-clause-within g c = λ is.
    let l = c.loop-slot in
    let all = ap (sum_by slot_bytes) (take_all l.slot-index c.args.slots.now c.loop-slot-test.false) in
    omega (arith, all, l.invariant, slots_counted c.args.slots.now)
