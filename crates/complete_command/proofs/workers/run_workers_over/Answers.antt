use Rattle.std.proofs.Common.{inl}
use Rattle.tn_run.specs.Answers.{live_run}
use Rattle.complete_workers.proofs.SameRuns.{live_by_picks, same_flushed, same_live_outcome, same_live_written, same_read_failed_by, same_run_left, same_write_failed_by, says_written}
use Rattle.complete_command.proofs.SameJobs.{same_status, succeed_alike}
use Rattle.complete_command.proofs.workers.run_workers_over.Goals as goal

pub returns-clause-outcome : goal.returns-clause-outcome
returns-clause-outcome g c =
    let one = c.run_workers_over-first.ensures.done in
    let two = c.run_workers_over-second.ensures.done in
    same_live_outcome live_run live_by_picks _ _ _ _ _ _ c.run_workers_over-first.result.answer c.run_workers_over-second.result.answer c.requires.reported one.written one.outcome two.written two.outcome

pub returns-clause-status : goal.returns-clause-status
returns-clause-status g c = λ some.
    let one = c.run_workers_over-first.ensures.done in
    let two = c.run_workers_over-second.ensures.done in
    same_status live_run _ _ c.run_workers_over-first.result.answer c.run_workers_over-second.result.answer c.run_workers_over-first.ensures.answer c.run_workers_over-second.ensures.answer
    (succeed_alike c.run_workers_over-first.result.answer c.run_workers_over-second.result.answer
    (same_live_outcome live_run live_by_picks _ _ _ _ _ _ c.run_workers_over-first.result.answer c.run_workers_over-second.result.answer c.requires.reported one.written one.outcome two.written two.outcome some))

pub returns-clause-written : goal.returns-clause-written
returns-clause-written g c =
    same_live_written live_run live_by_picks _ _ _ _ _ _ c.run_workers_over-first.result.answer c.run_workers_over-second.result.answer c.requires.reported c.requires.outs.reported
    (says_written _ _ _ _ _ _ _ c.run_workers_over-first.result.answer c.run_workers_over-first.ensures.done) (says_written _ _ _ _ _ _ _ c.run_workers_over-second.result.answer c.run_workers_over-second.ensures.done)

pub returns-clause-left : goal.returns-clause-left
returns-clause-left g c =
    same_run_left live_run _ _ (λ bytes o x h. inl tt) _ _ _ _ _ _ _ _ c.run_workers_over-first.result.answer c.run_workers_over-second.result.answer c.requires.reported c.run_workers_over-first.ensures.done
    c.run_workers_over-second.ensures.done

pub returns-clause-reader : goal.returns-clause-reader
returns-clause-reader g c =
    same_read_failed_by _ _ _ _ _ _ _ _ _ _ _ c.run_workers_over-first.result.answer c.run_workers_over-second.result.answer c.run_workers_over-first.ensures.done c.run_workers_over-second.ensures.done c.requires.failed

pub returns-clause-writer : goal.returns-clause-writer
returns-clause-writer g c =
    same_write_failed_by _ _ _ _ _ _ _ _ _ _ _ c.run_workers_over-first.result.answer c.run_workers_over-second.result.answer c.run_workers_over-first.ensures.done c.run_workers_over-second.ensures.done c.requires.outs.failed

pub returns-clause-flushed : goal.returns-clause-flushed
returns-clause-flushed g c =
    same_flushed _ _ _ _ _ _ _ _ _ _ _ c.run_workers_over-first.result.answer c.run_workers_over-second.result.answer c.run_workers_over-first.ensures.done c.run_workers_over-second.ensures.done c.requires.outs.flushed
