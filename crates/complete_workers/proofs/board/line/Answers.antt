use Rattle.complete_workers.proofs.SameBoards.{same_places}
use Rattle.complete_workers.proofs.board.line.Goals as goal

pub returns : goal.returns
returns g c = same_places c.args.session c.args.index c.line.result c.line-2.result c.line.ensures.line c.line-2.ensures.line
