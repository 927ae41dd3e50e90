use Rattle.std.proofs.Common.{◌≤◌, ◌+◌, vec_len}
use Rattle.tn_pool.specs.Earnings.{WorksOn}
use Rattle.tn_pool.specs.Endings.{IsReady, IsAccounted}
use Rattle.tn_pool.proofs.worker.work.Given as goal

abbrev pub invariant-loop : goal.invariant-loop
invariant-loop g l = record {
  works : WorksOn g.J.JournalName.program l.initial.worker l.worker;
  few : vec_len l.worker.receipts ≤ vec_len l.initial.worker.receipts + l.counter;
  ready : IsReady l.initial.end l.initial.worker → IsReady l.end l.worker;
  accounted : IsReady l.initial.end l.initial.worker → IsAccounted l.end l.worker;
}
