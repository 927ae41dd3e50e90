use Rattle.def_machine.proofs.FoldedExpressions.{folded_expressions_evaluate_alike}
use Rattle.def_machine.proofs.folded_expressions_evaluate_alike.Goals as goal

pub returns : goal.returns
returns c = folded_expressions_evaluate_alike
