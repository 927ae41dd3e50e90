use Rattle.std.proofs.Common.{refl, arith}
use Rattle.tn_pool.proofs.SeatReceipts.{on_moved, on_idle, on_fault}
use Rattle.tn_pool.proofs.WorkerEnds.{step_ends}
use Rattle.tn_pool.proofs.worker.step.Goals as goal

pub returns-in-Ok-Moved-clause-works : goal.returns-in-Ok-Moved-clause-works
returns-in-Ok-Moved-clause-works g c =
    let t = rw c.in-Ok-Moved.field-0-is at c.in-Ok-Moved.ensures.seat in
    on_moved _ _ _ _ _ _ t c.push_reserved.ensures.items

pub returns-in-Ok-Idle-clause-works : goal.returns-in-Ok-Idle-clause-works
returns-in-Ok-Idle-clause-works g c =
    let t = rw c.in-Ok-Idle.field-0-is at c.in-Ok-Idle.ensures.seat in
    on_idle _ _ _ _ _ _ t refl

pub returns-in-Err : goal.returns-in-Err
returns-in-Err g c = record {
  works = on_fault _ _ _ _ c.args.pick _ c.in-Err.ensures.seat refl;
  few = omega arith;
  ends = (refl, step_ends g.row.A.Denot g.J.JournalName.program c.args.worker.now.seat c.step.new.seat c.args.pick c.in-Err.fault _ c.in-Err.ensures.seat c.ending_fault-worker.ensures);
}
