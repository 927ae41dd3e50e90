use Rattle.std.proofs.Common.{◌≡◌, drop}
use Rattle.tn_expectation.specs.Expectations.{first_absent, words_of}
use Rattle.tn_expectation.proofs.expectation.Expectation.absent_line.Given as goal

-- none of the lines so far is absent
abbrev pub invariant-loop-line : goal.invariant-loop-line
invariant-loop-line l = first_absent l.output (words_of (drop l.line-index l.self.lines.now)) ≡ first_absent l.output (words_of l.self.lines.now)
