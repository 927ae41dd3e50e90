use Rattle.complete_workers.proofs.OneRun.{same_accepted}
use Rattle.complete_workers.proofs.acceptance.accept.Goals as goal

pub returns : goal.returns
returns g c = same_accepted {A = g.row.A.Denot} c.args.one.now c.args.other.now c.accept-first.result c.accept-second.result c.requires c.accept-first.ensures c.accept-second.ensures
