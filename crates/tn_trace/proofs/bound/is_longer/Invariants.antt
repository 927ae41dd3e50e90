use Rattle.std.proofs.Common.{◌≡◌, ◌+◌, take}
use Rattle.std.specs.Prelude.{sum_by}
use Rattle.tn_trace.proofs.Bounds.{slot_bytes}
use Rattle.tn_trace.proofs.bound.is_longer.Given as goal

abbrev pub invariant-loop-slot : goal.invariant-loop-slot
invariant-loop-slot g l = sum_by slot_bytes (take l.slot-index l.slots) + l.room ≡ l.most
