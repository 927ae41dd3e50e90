use Rattle.std.proofs.Common.{vec_len}
use Rattle.tn_pool.proofs.BoardPlaces.{all_rows}
use Rattle.tn_pool.proofs.board.Board.new.Goals as goal

pub returns-clause-lines : goal.returns-clause-lines
returns-clause-lines g c = all_rows vec_len c.loop.rows.items c.args.lines c.loop.invariant.1
