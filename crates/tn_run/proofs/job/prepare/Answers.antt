use Rattle.tn_run.proofs.ReadLemmas.{prepared_answer}
use Rattle.tn_run.proofs.job.prepare.Goals as goal

pub returns-in-Ok-Accepted : goal.returns-in-Ok-Accepted
returns-in-Ok-Accepted g c =
    prepared_answer (g.J.Job.view c.args.job.now) (g.J.Job.takes c.args.job.now) g.R.Read.remaining c.args.reader.now c.read_script.new.reader c.in-Ok-Accepted.field-0 c.in-Ok-Accepted.picks c.in-Ok-Accepted.program c.answer.result
    c.in-Ok-Accepted.field-0-is c.in-Ok-Accepted.ensures c.answer.ensures.given c.answer.ensures.fault
