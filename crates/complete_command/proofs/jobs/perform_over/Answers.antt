use Rattle.std.proofs.Common.{◌≡◌, ◌∙◌, ap, sym}
use Rattle.complete_workers.proofs.SameRuns.{same_flushed, same_outcome, same_read_failed_by, same_run_left, same_run_written, same_write_failed_by, says_written, seen_as}
use Rattle.complete_command.proofs.SameJobs.{same_status}
use Rattle.complete_command.proofs.jobs.perform_over.Goals as goal

pub returns-clause-outcome : goal.returns-clause-outcome
returns-clause-outcome g c =
    let job = g.J.Job.view c.args.job.now in
    same_outcome job _ (λ bytes o u x y h i. (c.requires.answer.answer bytes o u x y h i).0) _ _ _ _ _ _ c.perform_over-first.result.answer c.perform_over-second.result.answer c.requires.reported
    c.perform_over-first.ensures.done.written c.perform_over-second.ensures.done.written

pub returns-clause-status : goal.returns-clause-status
returns-clause-status g c = λ some.
    let job = g.J.Job.view c.args.job.now in
    same_status job _ _ c.perform_over-first.result.answer c.perform_over-second.result.answer c.perform_over-first.ensures.answer c.perform_over-second.ensures.answer
    (same_outcome job (λ o u. job.succeeds o ≡ job.succeeds u) (λ bytes o u x y h i. ap job.succeeds (c.requires.answer.answer bytes o u x y h i).0) _ _ _ _ _ _ c.perform_over-first.result.answer c.perform_over-second.result.answer
    c.requires.reported c.perform_over-first.ensures.done.written c.perform_over-second.ensures.done.written some)

pub returns-clause-written : goal.returns-clause-written
returns-clause-written g c =
    let job = g.J.Job.view c.args.job.now in
    same_run_written job (λ bytes o u x y h i. (c.requires.answer.answer bytes o u x y h i).1) _ _ _ _ _ _ c.perform_over-first.result.answer c.perform_over-second.result.answer c.requires.reported c.requires.outs.reported
    (says_written _ _ _ _ _ _ _ c.perform_over-first.result.answer c.perform_over-first.ensures.done) (says_written _ _ _ _ _ _ _ c.perform_over-second.result.answer c.perform_over-second.ensures.done)

pub returns-clause-unread : goal.returns-clause-unread
returns-clause-unread g c =
    λ none. seen_as g.R.Read.remaining _ _ (c.perform_over-first.ensures.done.unread none) ∙ c.requires.reported ∙ sym (seen_as g.R.Read.remaining _ _ (c.perform_over-second.ensures.done.unread none))

pub returns-clause-left : goal.returns-clause-left
returns-clause-left g c =
    same_run_left (g.J.Job.view c.args.job.now) _ _ c.requires.answer.reads _ _ _ _ _ _ _ _ c.perform_over-first.result.answer c.perform_over-second.result.answer c.requires.reported c.perform_over-first.ensures.done
    c.perform_over-second.ensures.done

pub returns-clause-reader : goal.returns-clause-reader
returns-clause-reader g c = same_read_failed_by _ _ _ _ _ _ _ _ _ _ _ c.perform_over-first.result.answer c.perform_over-second.result.answer c.perform_over-first.ensures.done c.perform_over-second.ensures.done c.requires.failed

pub returns-clause-writer : goal.returns-clause-writer
returns-clause-writer g c = same_write_failed_by _ _ _ _ _ _ _ _ _ _ _ c.perform_over-first.result.answer c.perform_over-second.result.answer c.perform_over-first.ensures.done c.perform_over-second.ensures.done c.requires.outs.failed

pub returns-clause-flushed : goal.returns-clause-flushed
returns-clause-flushed g c = same_flushed _ _ _ _ _ _ _ _ _ _ _ c.perform_over-first.result.answer c.perform_over-second.result.answer c.perform_over-first.ensures.done c.perform_over-second.ensures.done c.requires.outs.flushed
