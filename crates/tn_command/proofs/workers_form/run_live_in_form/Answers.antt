use Rattle.std.proofs.Common.{refl, subst}
use Rattle.tn_run.specs.Answers.{live_run}
use Rattle.tn_run.specs.Ends.{WroteFront}
use Rattle.tn_run.proofs.JobLemmas.{does_front}
use Rattle.tn_command.specs.JobForms.{job_in_form}
use Rattle.tn_command.proofs.workers_form.run_live_in_form.Goals as goal

pub returns-in-Err : goal.returns-in-Err
returns-in-Err g c =
    does_front (job_in_form c.args.form live_run) g.R.Read.remaining c.args.reader.now c.prepare_in_form.new.reader g.W.Write.contents c.args.writer.now c.write_output.new.writer c.in_ok-ran.ran c.in_ok-ran.output c.in-Err.fault _
    c.in_ok-ran.ensures
    (subst (λ t. WroteFront g.W.Write.contents c.args.writer.now c.write_output.new.writer t c.in-Err.fault) c.deref.ensures.value c.in-Err.ensures.front) c.in-Err.ensures.write refl
