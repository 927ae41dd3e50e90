use Rattle.complete_code.proofs.SpecTestAnswers.{read_alike}
use Rattle.complete_code.proofs.spec_test_input.terms_of.Goals as goal

pub returns : goal.returns
returns g c = read_alike c.args.question.now _ _ c.terms_of.ensures c.terms_of-2.ensures
