use Rattle.complete_workers.proofs.SameBoards.{not_lent}
use Rattle.complete_workers.proofs.board.line_without_place.Goals as goal

pub returns : goal.returns
returns g c = not_lent c.line.result c.requires c.line.ensures.place
