use Rattle.std.proofs.Common.{length, ◌-◌}
use Rattle.tn_expectation.proofs.alignment.shown_count.Given as goal

abbrev pub decreases-loop-end : goal.decreases-loop-end
decreases-loop-end l = length l.steps - l.end
