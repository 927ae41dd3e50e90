use Rattle.std.proofs.Common.{◌≡◌, take}
use Rattle.tn_session.proofs.copies.copy_marks.Given as goal

abbrev pub invariant-loop-mark : goal.invariant-loop-mark
invariant-loop-mark g l = l.copy.items ≡ take l.mark-index l.mark-items
