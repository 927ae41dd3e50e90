use Rattle.std.proofs.Common.{◌≤◌}
use Rattle.tn_expectation.proofs.difference.common_end.Given as goal

abbrev pub invariant-loop-place : goal.invariant-loop-place
invariant-loop-place l = l.common ≤ l.place
