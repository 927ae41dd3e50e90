use Rattle.std.specs.Process.{exit_status}
use Rattle.tn_command.specs.PrintedJobs.{IsPrintedAs}
use Rattle.tn_request.specs.Tasks.{task_seen}
use Rattle.tn_request.proofs.TaskLemmas.{both_asked}
use Rattle.tn_request.proofs.answer.print_request_over.Goals as goal

pub returns-clause-printed : goal.returns-clause-printed
returns-clause-printed g c =
    both_asked c.args.request.now c.args.read.now c.args.form c.format_of-format.result (task_seen c.job_of.result)
    (λ job flaw. IsPrintedAs job flaw c.args.expectation.now (g.S.Read.remaining c.args.streams.reader) (g.W.Write.contents c.args.streams.writer)
    (g.W.Write.contents c.print_over.result.1) (exit_status c.print_over.result.0))
    c.format_of-format.ensures c.job_of.ensures c.print_over.ensures.printed
