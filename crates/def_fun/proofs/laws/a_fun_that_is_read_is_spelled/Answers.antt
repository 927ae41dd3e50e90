use Rattle.def_fun.proofs.FunRuns.{read_derives}
use Rattle.def_fun.proofs.laws.a_fun_that_is_read_is_spelled.Goals as goal

pub returns : goal.returns
returns c = read_derives
