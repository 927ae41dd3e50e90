use Rattle.def_explain.proofs.NearestFunctions.{nearest_is_there, some_nearest_where_alike}
use Rattle.def_explain.proofs.a_nearest_function_is_there.Goals as goal

pub returns-clause-there : goal.returns-clause-there
returns-clause-there c = nearest_is_there

pub returns-clause-some : goal.returns-clause-some
returns-clause-some c = some_nearest_where_alike
