use Rattle.complete_workers.proofs.SameTurns.{same_ends}
use Rattle.complete_workers.proofs.turns.ends.Goals as goal

pub returns : goal.returns
returns g c =
    same_ends c.args.n c.ends-first.result c.ends-second.result
    c.ends-first.ensures.count c.ends-first.ensures.empty c.ends-second.ensures.count c.ends-second.ensures.empty
