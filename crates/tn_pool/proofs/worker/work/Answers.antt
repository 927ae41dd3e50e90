use Rattle.std.proofs.Common.{arith, refl}
use Rattle.tn_pool.proofs.SeatReceipts.{on_still, on_both}
use Rattle.tn_pool.proofs.WorkerEnds.{still_accounted}
use Rattle.tn_pool.proofs.worker.work.Goals as goal

pub loop-init : goal.loop-init
loop-init g c = record { works = on_still _ _ _ _ refl refl; few = omega arith; ready = λ r. r; accounted = λ r. still_accounted _ _ r }

pub loop-preserved : goal.loop-preserved
loop-preserved g c =
    let was = c.loop.invariant in
    record {
      works = on_both _ _ _ _ _ was.works c.turn.ensures.works;
      few = omega (arith, was.few, c.turn.ensures.few);
      ready = λ r. c.if-not-turn.ensures.ends (was.ready r);
      accounted = λ r. still_accounted _ _ (c.if-not-turn.ensures.ends (was.ready r));
    }

pub returns-then-not-turn-clause-works : goal.returns-then-not-turn-clause-works
returns-then-not-turn-clause-works g c = on_both _ _ _ _ _ c.loop.invariant.works c.turn.ensures.works

pub returns-then-not-turn-clause-accounted : goal.returns-then-not-turn-clause-accounted
returns-then-not-turn-clause-accounted g c = λ r. (c.if-not-turn.ensures.ends (c.loop.invariant.ready r)).0
