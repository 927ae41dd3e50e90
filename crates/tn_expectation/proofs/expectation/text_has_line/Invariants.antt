use Rattle.std.proofs.Common.{◌≡◌, length}
use Rattle.tn_expectation.specs.Expectations.{has_line}
use Rattle.tn_expectation.proofs.expectation.text_has_line.Given as goal

-- what is left has the line just where the whole text has it
abbrev pub invariant-loop-line : goal.invariant-loop-line
invariant-loop-line l = has_line l.rest l.line ≡ has_line l.text l.line

abbrev pub decreases-loop-line : goal.decreases-loop-line
decreases-loop-line l = length l.rest
