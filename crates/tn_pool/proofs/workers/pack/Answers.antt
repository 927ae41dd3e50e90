use Rattle.std.proofs.Common.{arith}
use Rattle.tn_pool.proofs.Reports.{packed, all_new, ready_at, unused_last, unused_still}
use Rattle.tn_pool.proofs.workers.pack.Goals as goal

pub loop-seat-preserved : goal.loop-seat-preserved
loop-seat-preserved g c =
    let i = c.loop-seat.invariant in
    let st = c.in-Some.ensures.steps in (
      tt,
      tt,
      packed _ _ _ _ _ _ _ i.2 c.push_reserved.ensures.items c.new_worker.ensures.seat st.0,
      omega (arith, i.3, st.1, c.push_reserved.ensures.len),
      omega (arith, i.4, st.1, c.in-Some-pop.ensures.cases),
      omega (arith, i.5, c.push_reserved.ensures.capacity),
      all_new _ _ _ i.6 c.push_reserved.ensures.items (c.new_worker.ensures.receipts.0, c.new_worker.ensures.receipts.1, ready_at _ _ (unused_last _ _ _ c.in-Some-pop.ensures.items i.7) c.new_worker.ensures.ready),
      unused_still _ _ _ c.in-Some-pop.ensures.items i.7,
    )
