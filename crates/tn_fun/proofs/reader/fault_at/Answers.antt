use Rattle.def_text.specs.Faults.{misplaced}
use Rattle.tn_fun.proofs.FunRuns.{fault_by}
use Rattle.tn_fun.proofs.reader.fault_at.Goals as goal

pub returns-in-Misplaced : goal.returns-in-Misplaced
returns-in-Misplaced c = λ text r h. fault_by text c.fault_of_token.result c.args.token r misplaced (rw c.in-Misplaced.is at h) (c.fault_of_token.ensures text)
