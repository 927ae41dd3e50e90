use Rattle.std.proofs.Common.{subst, sym}
use Rattle.tn_verdict.specs.SpecTestInputs.{IsAnswerTo}
use Rattle.tn_fun_words.proofs.answer.answer_in_words.Goals as goal

pub returns-in-Ok : goal.returns-in-Ok
returns-in-Ok g c = c.in-Ok.ensures c.in_ok-terms.ensures (subst (IsAnswerTo c.args.question.now) (sym c.deref.ensures.value) c.in_ok-plain.ensures)
