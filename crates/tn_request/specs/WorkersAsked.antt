-- Which workers a request asks for, and what their run writes (own).
use Rattle.std.specs.Prelude.{◌≡◌, ℕ, not, max, min}
use Rattle.tn_run.specs.Answers.{live_run}
use Rattle.tn_run.specs.Jobs.{JobView}
use Rattle.tn_run.specs.declared.fault.LiveFault.{LiveFault}
use Rattle.tn_run.specs.declared.live.Ran.{Ran}
use Rattle.tn_run.specs.declared.live.Workers.{Workers}
use Rattle.tn_command.specs.JobForms.{job_in_form}
use Rattle.tn_command.specs.declared.output_fault.OutputFault.{OutputFault}
use Rattle.tn_command.specs.declared.output_form.OutputForm.{OutputForm}
use Rattle.tn_command.specs.declared.workers.WorkersRun.{WorkersRun}
use Rattle.tn_request.specs.declared.request.WorkersRequest.{WorkersRequest}

-- as many as are asked for, from 1 to 16
abbrev pub worker_count_asked : WorkersRequest → ℕ
worker_count_asked request = min (max request.count 1) 16

-- so many, of so many turns each
pub record AreWorkersAsked {G : Type 0} (request : WorkersRequest) (workers : Workers G) : Type 0 where
  pub count : workers.count ≡ worker_count_asked request
  pub turns : workers.turns ≡ request.turns

-- its note is said but where none are, and its output is in this form
pub record IsWorkersRunAsked (request : WorkersRequest) (form : OutputForm) (run : WorkersRun) : Type 0 where
  pub has_note : run.has_note ≡ not request.quiet
  pub form_is : run.form ≡ form

-- what is written of a script, whatever picks its workers make: its output by these, in this form
abbrev pub workers_job_asked : OutputForm → JobView Ran (OutputFault LiveFault)
workers_job_asked form = job_in_form form live_run
