use Rattle.complete_code.proofs.SpecTestAnswers.{told_alike}
use Rattle.complete_code.proofs.spec_reasons.no_specification_text.Goals as goal

pub returns : goal.returns
returns g c = told_alike c.args.dialect c.args.text.now c.no_specification_text.result c.no_specification_text-2.result c.no_specification_text.ensures c.no_specification_text-2.ensures
