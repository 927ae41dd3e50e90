use Rattle.std.proofs.Common.{arith, ap, ◌≡◌, []}
use Rattle.std.specs.Vec.Iter.{into_iter_items}
use Rattle.tn_pool.specs.Reports.{member_count}
use Rattle.tn_pool.proofs.Reports.{seats_on, receipts_on, tokens_on, fault_on, seats_all, receipts_all, tokens_all, fault_all, nothing_left}
use Rattle.tn_pool.proofs.workers.unpack.Goals as goal

pub loop-worker-preserved : goal.loop-worker-preserved
loop-worker-preserved g c =
    let i = c.loop-worker.invariant in
    let st = c.in-Some.ensures.steps in
    let a = c.add_worker.ensures in (
      tt,
      tt,
      seats_on _ _ _ _ _ _ i.2 st.0 a.seats,
      receipts_on _ _ _ _ _ _ i.3 st.0 a.receipts,
      omega (arith, i.4, st.1, a.seats_room.0, a.seats_room.1),
      omega (arith, i.5, ap member_count st.0, a.receipts_room.0, a.receipts_room.1),
      omega (arith, i.6, st.1, a.tokens_room.0, a.tokens_room.1),
      tokens_on _ _ _ _ _ _ i.7 st.0 a.tokens,
      fault_on _ _ _ _ _ _ i.8 st.0 a.fault,
    )

pub returns-clause-seats : goal.returns-clause-seats
returns-clause-seats g c =
    let e : into_iter_items c.loop-worker.worker-iterator ≡ [] = nothing_left _ (omega (arith, c.loop-worker.worker-iterator.rest.ok.0, c.in-None.ensures.steps.0)) in
    seats_all _ _ _ e c.loop-worker.invariant.2

pub returns-clause-receipts : goal.returns-clause-receipts
returns-clause-receipts g c =
    let e : into_iter_items c.loop-worker.worker-iterator ≡ [] = nothing_left _ (omega (arith, c.loop-worker.worker-iterator.rest.ok.0, c.in-None.ensures.steps.0)) in
    receipts_all _ _ _ e c.loop-worker.invariant.3

pub returns-clause-tokens : goal.returns-clause-tokens
returns-clause-tokens g c =
    let e : into_iter_items c.loop-worker.worker-iterator ≡ [] = nothing_left _ (omega (arith, c.loop-worker.worker-iterator.rest.ok.0, c.in-None.ensures.steps.0)) in
    tokens_all _ _ _ e c.loop-worker.invariant.7

pub returns-clause-fault : goal.returns-clause-fault
returns-clause-fault g c =
    let e : into_iter_items c.loop-worker.worker-iterator ≡ [] = nothing_left _ (omega (arith, c.loop-worker.worker-iterator.rest.ok.0, c.in-None.ensures.steps.0)) in
    fault_all _ _ _ e c.loop-worker.invariant.8
