use Rattle.tn_memory.proofs.Histories.{starts}
use Rattle.tn_memory.proofs.history.Account.new.Goals as goal

pub open_row-start-requires : goal.open_row-start-requires
open_row-start-requires c = (starts c.args.most, (λ xs. tt), c.alone.ensures.1)
