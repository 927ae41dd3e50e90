use Rattle.std.proofs.Common.{◌≡◌, ◌∙◌, true, false, refl, sym, ap}
use Rattle.std.specs.Str.{bytes_eq}
use Rattle.tn_message_choice.proofs.MessageCounts.{counted_here, counted_later, none_counted}
use Rattle.tn_message_choice.proofs.finder.sent_by.Goals as goal

pub loop-slot-init : goal.loop-slot-init
loop-slot-init g c = refl

pub returns-then-eq : goal.returns-then-eq
returns-then-eq g c =
    let l = c.loop-slot in
    let slot = c.slot-item.result in
    let named : bytes_eq c.args.name.now slot.name ≡ true = ap (bytes_eq c.args.name.now) (sym c.text.ensures.text) ∙ sym c.eq.ensures ∙ c.if-eq.true in
    counted_here c.args.name.now c.args.slots.now l.slot-index slot c.loop-slot-test.true c.slot-item.is l.invariant named

pub loop-slot-preserved : goal.loop-slot-preserved
loop-slot-preserved g c =
    let l = c.loop-slot in
    let slot = c.slot-item.result in
    let named : bytes_eq c.args.name.now slot.name ≡ false = ap (bytes_eq c.args.name.now) (sym c.text.ensures.text) ∙ sym c.eq.ensures ∙ c.if-eq.false in
    counted_later c.args.name.now c.args.slots.now l.slot-index slot c.loop-slot-test.true c.slot-item.is l.invariant named

pub returns : goal.returns
returns g c = none_counted c.args.name.now c.args.slots.now c.loop-slot.slot-index c.loop-slot-test.false c.loop-slot.invariant
