use Rattle.std.proofs.Common.{length}
use Rattle.tn_expectation.proofs.difference.tell_difference.Given as goal

abbrev pub decreases-loop-one_before : goal.decreases-loop-one_before
decreases-loop-one_before g l = length l.place.found.now
