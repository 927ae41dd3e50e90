use Rattle.complete_workers.proofs.SameBoards.{same_boards}
use Rattle.complete_workers.proofs.board.new.Goals as goal

pub returns : goal.returns
returns g c =
    same_boards c.args.sessions c.args.lines c.new-first.result c.new-second.result
    c.new-first.ensures.sessions c.new-first.ensures.lines c.new-second.ensures.sessions c.new-second.ensures.lines
