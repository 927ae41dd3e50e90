use Rattle.std.proofs.Common.{◌≡◌, vec_len, All, length}
use Rattle.tn_pool.proofs.board.Board.new.Given as goal

abbrev pub invariant-loop : goal.invariant-loop
invariant-loop g l = (length l.rows.items ≡ l.counter) × All (λ row. vec_len row ≡ l.fn.lines) l.rows.items
