use Rattle.std.proofs.Common.{◌≡◌, vec_len}
use Rattle.tn_pool.proofs.board.row_of.Given as goal

abbrev pub invariant-loop : goal.invariant-loop
invariant-loop g l = vec_len l.row ≡ l.counter
