use Rattle.std.proofs.Common.{subst}
use Rattle.tn_run.specs.Ends.{WroteFront}
use Rattle.tn_run.proofs.JobLemmas.{does_front}
use Rattle.tn_run.proofs.job.transact.Goals as goal

pub returns-in-Err : goal.returns-in-Err
returns-in-Err g c =
    does_front (g.J.Job.view c.args.job.now) g.R.Read.remaining c.args.reader.now c.prepare.new.reader g.W.Write.contents c.args.writer.now c.write_output.new.writer c.in_ok-outcome.outcome c.in_ok-outcome.output c.in-Err.fault c.fault_of.result
    c.in_ok-outcome.ensures
    (subst (λ t. WroteFront g.W.Write.contents c.args.writer.now c.write_output.new.writer t c.in-Err.fault) c.deref.ensures.value c.in-Err.ensures.front) c.in-Err.ensures.write c.fault_of.ensures
