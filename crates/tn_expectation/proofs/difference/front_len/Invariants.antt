use Rattle.std.proofs.Common.{length, ◌≤◌}
use Rattle.tn_expectation.proofs.difference.front_len.Given as goal

abbrev pub invariant-loop : goal.invariant-loop
invariant-loop l = length l.rest ≤ length l.text
