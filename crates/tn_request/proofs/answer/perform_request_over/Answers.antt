use Rattle.tn_run.specs.Jobs.{Meets}
use Rattle.tn_command.specs.Status.{WroteAs}
use Rattle.tn_request.specs.Tasks.{task_seen}
use Rattle.tn_request.proofs.TaskLemmas.{asked_along}
use Rattle.tn_request.proofs.answer.perform_request_over.Goals as goal

pub returns-clause-written : goal.returns-clause-written
returns-clause-written g c =
    asked_along c.args.request.now c.args.read.now c.args.form c.format_of-format.result (task_seen c.job_of.result)
    (λ job. WroteAs job c.perform_over.result.status g.R.Read.remaining c.args.reader.now g.W.Write.contents c.args.writer.now c.perform_over.new.writer)
    c.format_of-format.ensures c.job_of.ensures c.perform_over.ensures.written

pub returns-clause-done : goal.returns-clause-done
returns-clause-done g c =
    asked_along c.args.request.now c.args.read.now c.args.form c.format_of-format.result (task_seen c.job_of.result)
    (λ job. Meets job g.R.Read.remaining c.args.reader.now c.perform_over.new.reader g.W.Write.contents c.args.writer.now c.perform_over.new.writer c.perform_over.result.answer)
    c.format_of-format.ensures c.job_of.ensures c.perform_over.ensures.done
