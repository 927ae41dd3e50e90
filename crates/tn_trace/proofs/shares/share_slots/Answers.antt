use Rattle.std.proofs.Common.{◌∙◌, subst, arith}
use Rattle.std.proofs.lemmas.List.{take_all}
use Rattle.tn_trace.specs.Slots.{EachPair}
use Rattle.tn_trace.specs.Shares.{IsSlotCopy}
use Rattle.tn_trace.proofs.Copies.{pair_more}
use Rattle.tn_trace.proofs.shares.share_slots.Goals as goal

pub loop-slot-preserved : goal.loop-slot-preserved
loop-slot-preserved g c =
    let s = c.loop-slot in
    pair_more (IsSlotCopy g.K.MessageSink.keeps) c.deref-slot-items.result.now s.copies.items c.push.new.self.items s.slot-index c.slot-item.result c.in_ok-share.field-0 (omega arith) c.slot-item.is c.in_ok-push.ensures.items s.invariant c.in_ok-share.ensures

pub returns : goal.returns
returns g c =
    let s = c.loop-slot in
    subst (λ xs. EachPair (IsSlotCopy g.K.MessageSink.keeps) xs s.copies.items) (take_all s.slot-index c.deref-slot-items.result.now (omega arith) ∙ c.deref-slot-items.ensures.value) s.invariant
