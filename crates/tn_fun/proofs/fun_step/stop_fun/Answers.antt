use Rattle.tn_fun.specs.Clauses.{fun_clauses_seen}
use Rattle.tn_fun.proofs.OtherKinds.{not_stop}
use Rattle.tn_fun.proofs.fun_step.stop_fun.Goals as goal

pub returns-in_default : goal.returns-in_default
returns-in_default g c = λ text u more. not_stop c.args.kind (fun_clauses_seen text c.args.clauses.items) u more (λ e. c.in_default.not-FullStop e)
