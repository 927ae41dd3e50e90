use Rattle.tn_live.specs.ClosedJournals.{AreHanded}
use Rattle.tn_live.proofs.seat.first_missing.Given as goal

abbrev pub invariant-loop-number : goal.invariant-loop-number
invariant-loop-number g l = AreHanded l.seats l.number
