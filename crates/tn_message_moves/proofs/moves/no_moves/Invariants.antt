use Rattle.std.proofs.Common.{◌≡◌, ◌++◌, ◌-◌, drop, length, map}
use Rattle.tn_message_moves.specs.Tallies.{tallies_seen}
use Rattle.tn_message_moves.proofs.Numbers.{no_numbers}
use Rattle.tn_message_moves.proofs.moves.no_moves.Given as goal

-- those so far and those that are left are as many as the sessions
abbrev pub invariant-loop-alloc : goal.invariant-loop-alloc
invariant-loop-alloc g l = tallies_seen l.moves.items ++ map (λ s. no_numbers) (drop (length l.moves.items) l.slots.items) ≡ map (λ s. no_numbers) l.slots.items

abbrev pub decreases-loop-alloc : goal.decreases-loop-alloc
decreases-loop-alloc g l = length l.slots.items - length l.moves.items
