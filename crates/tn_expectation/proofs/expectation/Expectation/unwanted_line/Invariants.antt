use Rattle.std.proofs.Common.{◌≡◌, drop}
use Rattle.tn_expectation.specs.Expectations.{first_present, words_of}
use Rattle.tn_expectation.proofs.expectation.Expectation.unwanted_line.Given as goal

-- none of the lines so far is there
abbrev pub invariant-loop-line : goal.invariant-loop-line
invariant-loop-line l = first_present l.output (words_of (drop l.line-index l.self.no_lines.now)) ≡ first_present l.output (words_of l.self.no_lines.now)
