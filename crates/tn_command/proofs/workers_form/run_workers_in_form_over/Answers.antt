use Rattle.tn_run.specs.Answers.{live_run}
use Rattle.tn_command.specs.JobForms.{job_in_form}
use Rattle.tn_command.proofs.StatusLemmas.{has_status, untouched_or_failed, written_so}
use Rattle.tn_command.proofs.workers_form.run_workers_in_form_over.Goals as goal

pub returns-clause-written : goal.returns-clause-written
returns-clause-written g c = written_so _ _ _ _ _ c.run_live_in_form-answer.result c.job_status-status.ensures c.run_live_in_form-answer.ensures.written

pub returns-clause-failed : goal.returns-clause-failed
returns-clause-failed g c =
    untouched_or_failed (job_in_form c.args.form live_run) _ _ _ _ _ _ _ c.run_live_in_form-answer.result c.job_status-status.ensures c.run_live_in_form-answer.ensures

pub returns-clause-status : goal.returns-clause-status
returns-clause-status g c = has_status (job_in_form c.args.form live_run) _ c.run_live_in_form-answer.result c.job_status-status.ensures
