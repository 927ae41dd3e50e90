use Rattle.std.proofs.Common.{take}
use Rattle.tn_live.specs.ClosedJournals.{AreEntered}
use Rattle.tn_live.proofs.seat.are_entered.Given as goal

abbrev pub invariant-loop-entry : goal.invariant-loop-entry
invariant-loop-entry g l = AreEntered l.seats (take l.entry-index l.entries)
