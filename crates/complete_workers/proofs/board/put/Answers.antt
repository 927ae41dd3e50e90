use Rattle.tn_trace.specs.Items.{item_seen}
use Rattle.complete_workers.proofs.SameBoards.{same_returned}
use Rattle.complete_workers.proofs.board.put.Goals as goal

pub returns : goal.returns
returns g c = same_returned (λ l. item_seen l.item) c.args.one c.args.other c.put-first.result c.put-second.result c.requires c.put-first.ensures.back c.put-second.ensures.back
