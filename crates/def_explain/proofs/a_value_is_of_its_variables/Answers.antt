use Rattle.def_explain.proofs.Variables.{value_of_variables_within}
use Rattle.def_explain.proofs.a_value_is_of_its_variables.Goals as goal

pub returns : goal.returns
returns c = value_of_variables_within
