use Rattle.tn_command.proofs.StatusLemmas.{has_status, untouched_or_failed, written_so}
use Rattle.tn_command.proofs.jobs.perform_over.Goals as goal

pub returns-clause-written : goal.returns-clause-written
returns-clause-written g c = written_so _ _ _ _ _ c.transact-answer.result c.job_status-status.ensures c.transact-answer.ensures.written

pub returns-clause-failed : goal.returns-clause-failed
returns-clause-failed g c = untouched_or_failed _ _ _ _ _ _ _ _ c.transact-answer.result c.job_status-status.ensures c.transact-answer.ensures

pub returns-clause-status : goal.returns-clause-status
returns-clause-status g c = has_status (g.J.Job.view c.args.job.now) _ c.transact-answer.result c.job_status-status.ensures
