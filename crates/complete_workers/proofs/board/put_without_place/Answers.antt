use Rattle.complete_workers.proofs.SameBoards.{not_put}
use Rattle.complete_workers.proofs.board.put_without_place.Goals as goal

pub returns : goal.returns
returns g c = not_put c.args.line c.put.result c.requires c.put.ensures.place c.put.ensures.back
