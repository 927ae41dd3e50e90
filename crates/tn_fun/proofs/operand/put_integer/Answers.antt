use Rattle.tn_fun.specs.States.{open_parts_seen}
use Rattle.tn_fun.proofs.SizeSteps.{integer_put}
use Rattle.tn_fun.proofs.operand.put_integer.Goals as goal

pub returns-in-Some : goal.returns-in-Some
returns-in-Some g c = λ text n most e. integer_put g.row.A.Denot text c.args.at n most c.in-Some.n (open_parts_seen text c.args.parts.items) c.args.value c.in-Some.is e
