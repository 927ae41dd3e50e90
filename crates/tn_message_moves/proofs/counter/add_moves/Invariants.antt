use Rattle.std.proofs.Common.{◌≡◌, ◌++◌, drop, take, length}
use Rattle.tn_message_moves.specs.Tallies.{slot_counts, each_with_move, tallies_seen}
use Rattle.tn_message_moves.proofs.counter.add_moves.Given as goal

-- the lists so far and what becomes of those that are left are what becomes of all
abbrev pub invariant-loop-place : goal.invariant-loop-place
invariant-loop-place g l =
    (take l.place (tallies_seen l.moves.items) ++ each_with_move l.number (drop l.place (slot_counts l.slots.items)) (drop l.place (tallies_seen l.moves.items))
    ≡ each_with_move l.number (slot_counts l.slots.items) (tallies_seen l.fn.moves.items)) × (length l.moves.items ≡ length l.fn.moves.items)
