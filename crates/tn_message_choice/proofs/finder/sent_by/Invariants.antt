use Rattle.std.proofs.Common.{◌≡◌, drop}
use Rattle.tn_message_choice.specs.Counts.{sent_in}
use Rattle.tn_message_choice.proofs.finder.sent_by.Given as goal

abbrev pub invariant-loop-slot : goal.invariant-loop-slot
invariant-loop-slot g l = sent_in l.fn.name (drop l.slot-index l.fn.slots) ≡ sent_in l.fn.name l.fn.slots
