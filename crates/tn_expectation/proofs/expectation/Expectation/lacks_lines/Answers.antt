use Rattle.tn_expectation.specs.Expectations.{has_line, words_of}
use Rattle.tn_expectation.proofs.FirstLines.{present, none_present}
use Rattle.tn_expectation.proofs.expectation.Expectation.lacks_lines.Goals as goal

pub returns-in-Some : goal.returns-in-Some
returns-in-Some c = present (λ l. l.now) (has_line c.args.output.now) (words_of c.args.self.now.no_lines.now) c.unwanted_line.result _ c.unwanted_line.ensures c.in-Some.is

pub returns-in-None : goal.returns-in-None
returns-in-None c = none_present (λ l. l.now) (has_line c.args.output.now) (words_of c.args.self.now.no_lines.now) c.unwanted_line.result c.unwanted_line.ensures c.in-None.is
