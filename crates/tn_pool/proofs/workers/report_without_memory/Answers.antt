use Rattle.tn_pool.proofs.Reports.{none_taken}
use Rattle.tn_pool.proofs.workers.report_without_memory.Goals as goal

pub returns-clause-reports : goal.returns-clause-reports
returns-clause-reports g c = rw c.new.ensures.items (none_taken _ _ _)
