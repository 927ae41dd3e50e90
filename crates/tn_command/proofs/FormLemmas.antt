-- A run by workers that fails before its output is written in a form.
use Rattle.std.proofs.Common.{ℕ, List, Option, Err}
use Rattle.tn_text.specs.declared.watched.Watched.{Watched}
use Rattle.tn_run.specs.Answers.{live_run}
use Rattle.tn_run.specs.Jobs.{Prepares}
use Rattle.tn_run.specs.declared.fault.LiveFault.{LiveFault}
use Rattle.tn_command.specs.JobForms.{job_in_form}
use Rattle.tn_command.specs.declared.output_fault.OutputFault.TheVariants.{Job}
use Rattle.tn_command.specs.declared.output_form.OutputForm.{OutputForm}

-- a fault of the run is one of the run in a form
pub fails_so : {R A : Type 0} (form : OutputForm) (known : R → Option (List ℕ)) (reader reader' : Watched R) (fault : LiveFault) → Prepares {A = A} live_run known reader reader' (Err fault)
    → Prepares {A = A} (job_in_form form live_run) known reader reader' (Err (Job fault))
fails_so form known reader reader' fault h = record {
  given = tt;
  outcome = tt;
  read = tt;
  consumed = h.consumed;
  unread = h.unread;
  on_read = h.on_read;
  no_write = h.no_write;
  on_neither = h.on_neither;
}
