use Rattle.complete_code.proofs.SpecTestAnswers.{answered_alike}
use Rattle.complete_code.proofs.spec_test_input.answer.Goals as goal

pub returns : goal.returns
returns g c = answered_alike c.args.question.now _ _ c.answer.ensures c.answer-2.ensures
