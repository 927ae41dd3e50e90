use Rattle.std.proofs.Common.{take}
use Rattle.tn_trace.specs.Slots.{EachPair}
use Rattle.tn_trace.specs.Shares.{IsSlotCopy}
use Rattle.tn_trace.proofs.shares.share_slots.Given as goal

abbrev pub invariant-loop-slot : goal.invariant-loop-slot
invariant-loop-slot g l = EachPair (IsSlotCopy g.K.MessageSink.keeps) (take l.slot-index l.slot-items) l.copies.items
