use Rattle.std.proofs.Common.{◌≡◌, ◌+◌, ◌≤◌, ◌++◌, [], All, vec_len, vec_capacity}
use Rattle.std.specs.Vec.Iter.{into_iter_items, into_iter_len}
use Rattle.tn_pool.specs.Reports.{seats_of, AreNew}
use Rattle.tn_pool.proofs.workers.pack.Given as goal

abbrev pub invariant-loop-seat : goal.invariant-loop-seat
invariant-loop-seat g l =
    (goal.iterator-loop-seat g).can_next l.seat-iterator × (goal.iterator-loop-seat g).is_finite l.seat-iterator
    × (seats_of l.members.items ++ into_iter_items l.seat-iterator ≡ l.fn.seats.items)
    × (vec_len l.members + into_iter_len l.seat-iterator ≡ vec_len l.fn.seats)
    × (into_iter_len l.seat-iterator ≤ vec_len l.ends)
    × (vec_len l.fn.seats ≤ vec_capacity l.members)
    × AreNew l.members.items
    × All (λ view. view ≡ []) l.ends.items
