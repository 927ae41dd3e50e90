use Rattle.def_fun.proofs.TokenSound.{same_fun_tokens, fun_tokens_exist}
use Rattle.def_fun.proofs.laws.fun_tokens_are_determined.Goals as goal

pub returns : goal.returns
returns c = record { one = same_fun_tokens; some = fun_tokens_exist }
