use Rattle.tn_expectation.specs.Expectations.{has_line, words_of}
use Rattle.tn_expectation.proofs.FirstLines.{absent, none_absent}
use Rattle.tn_expectation.proofs.expectation.Expectation.has_lines.Goals as goal

pub returns-in-Some : goal.returns-in-Some
returns-in-Some c = absent (λ l. l.now) (has_line c.args.output.now) (words_of c.args.self.now.lines.now) c.absent_line.result _ c.absent_line.ensures c.in-Some.is

pub returns-in-None : goal.returns-in-None
returns-in-None c = none_absent (λ l. l.now) (has_line c.args.output.now) (words_of c.args.self.now.lines.now) c.absent_line.result c.absent_line.ensures c.in-None.is
