use Rattle.std.proofs.Common.{◌≡◌, ◌+◌, ◌≤◌, ◌++◌, vec_len, vec_capacity}
use Rattle.std.specs.Vec.Iter.{into_iter_items, into_iter_len}
use Rattle.tn_pool.specs.Endings.{first_fault}
use Rattle.tn_pool.specs.Reports.{seats_of, receipts_of, member_tokens, member_fault, member_count}
use Rattle.tn_pool.proofs.workers.unpack.Given as goal

abbrev pub invariant-loop-worker : goal.invariant-loop-worker
invariant-loop-worker g l =
    (goal.iterator-loop-worker g).can_next l.worker-iterator × (goal.iterator-loop-worker g).is_finite l.worker-iterator
    × (l.report.seats.items ++ seats_of (into_iter_items l.worker-iterator) ≡ seats_of l.fn.members.items)
    × (l.report.receipts.items ++ receipts_of (into_iter_items l.worker-iterator) ≡ receipts_of l.fn.members.items)
    × (vec_len l.report.seats + into_iter_len l.worker-iterator ≤ vec_capacity l.report.seats)
    × (vec_len l.report.receipts + member_count (into_iter_items l.worker-iterator) ≤ vec_capacity l.report.receipts)
    × (vec_len l.report.tokens + into_iter_len l.worker-iterator ≤ vec_capacity l.report.tokens)
    × (l.report.tokens.items ++ member_tokens (into_iter_items l.worker-iterator) ≡ member_tokens l.fn.members.items)
    × (first_fault l.report.fault (member_fault (into_iter_items l.worker-iterator)) ≡ member_fault l.fn.members.items)
