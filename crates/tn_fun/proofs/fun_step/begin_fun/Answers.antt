use Rattle.tn_fun.proofs.OtherKinds.{not_fun}
use Rattle.tn_fun.proofs.fun_step.begin_fun.Goals as goal

pub returns-in_default : goal.returns-in_default
returns-in_default g c = λ text u more. not_fun c.args.kind u more (λ e. c.in_default.not-Fun e)
