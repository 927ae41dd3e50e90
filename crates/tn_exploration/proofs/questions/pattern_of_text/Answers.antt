use Rattle.tn_exploration.proofs.TextQuestions.{pattern_read}
use Rattle.tn_exploration.proofs.questions.pattern_of_text.Goals as goal

pub returns-in-Ok-Pattern-clause-pattern : goal.returns-in-Ok-Pattern-clause-pattern
returns-in-Ok-Pattern-clause-pattern g c = pattern_read {A = g.row.A.Denot} c.args.text.now c.as_bytes.result.now c.in-Ok-Pattern.field-0 c.in-Ok-Pattern.pattern c.as_bytes.ensures.value c.in-Ok-Pattern.field-0-is c.in-Ok-Pattern.ensures
