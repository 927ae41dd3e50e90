use Rattle.std.proofs.Common.{◌≡◌, ◌-◌, length}
use Rattle.tn_message_moves.specs.Tallies.{with_move}
use Rattle.tn_message_moves.proofs.counter.add_move.Given as goal

-- the numbers so far and those that are left are all
abbrev pub invariant-loop-moves : goal.invariant-loop-moves
invariant-loop-moves g l = with_move l.number l.count l.moves.items ≡ with_move l.number l.count l.fn.moves.items

abbrev pub decreases-loop-moves : goal.decreases-loop-moves
decreases-loop-moves g l = l.count - length l.moves.items
