use Rattle.complete_workers.proofs.SameReceipts.{same_numbers, same_receipts}
use Rattle.complete_workers.proofs.workers.run_workers.Goals as goal

pub returns-clause-numbers : goal.returns-clause-numbers
returns-clause-numbers g c = same_numbers g.J.JournalName.program _ _ _ _ _ _ c.requires c.run_workers-first.ensures.reports c.run_workers-second.ensures.reports

pub returns-clause-receipts : goal.returns-clause-receipts
returns-clause-receipts g c = same_receipts g.J.JournalName.program _ _ _ _ _ _ c.requires c.run_workers-first.ensures.reports c.run_workers-second.ensures.reports
