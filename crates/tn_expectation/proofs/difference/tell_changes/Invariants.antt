use Rattle.std.proofs.Common.{length}
use Rattle.tn_expectation.proofs.difference.tell_changes.Given as goal

abbrev pub decreases-loop-expected : goal.decreases-loop-expected
decreases-loop-expected g l = length l.output
