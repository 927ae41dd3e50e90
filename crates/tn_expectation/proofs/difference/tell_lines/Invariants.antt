use Rattle.std.proofs.Common.{length}
use Rattle.tn_expectation.proofs.difference.tell_lines.Given as goal

abbrev pub decreases-loop-rest : goal.decreases-loop-rest
decreases-loop-rest g l = length l.rest
