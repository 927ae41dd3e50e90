use Rattle.std.proofs.Common.{◌∙◌, sym}
use Rattle.tn_moves.specs.Schedules.{schedule_seen}
use Rattle.tn_run.specs.Answers.{run_by}
use Rattle.complete_workers.proofs.OneRun.{one_run, reads_or_not}
use Rattle.complete_workers.proofs.SameRuns.{same_flushed, same_outcome, same_read_failed_by, same_run_left, same_run_written, same_write_failed_by, says_written, seen_as}
use Rattle.complete_workers.proofs.runs.run.Goals as goal

pub returns-clause-outcome : goal.returns-clause-outcome
returns-clause-outcome g c =
    let a = schedule_seen c.args.schedule in
    same_outcome (run_by c.args.schedule) _ (λ bytes o u x y h i. (one_run bytes a o u x y h i).0) _ _ _ _ _ _ c.run-first.result c.run-second.result c.requires.reported c.run-first.ensures.written c.run-second.ensures.written

pub returns-clause-written : goal.returns-clause-written
returns-clause-written g c =
    let a = schedule_seen c.args.schedule in
    same_run_written (run_by c.args.schedule) (λ bytes o u x y h i. (one_run bytes a o u x y h i).1) _ _ _ _ _ _ c.run-first.result c.run-second.result c.requires.reported c.requires.outs.reported
    (says_written _ _ _ _ _ _ _ c.run-first.result c.run-first.ensures) (says_written _ _ _ _ _ _ _ c.run-second.result c.run-second.ensures)

pub returns-clause-unread : goal.returns-clause-unread
returns-clause-unread g c =
    λ none. seen_as g.R.Read.remaining _ _ (c.run-first.ensures.unread none) ∙ c.requires.reported ∙ sym (seen_as g.R.Read.remaining _ _ (c.run-second.ensures.unread none))

pub returns-clause-left : goal.returns-clause-left
returns-clause-left g c =
    same_run_left (run_by c.args.schedule) _ _ (λ bytes o x h. reads_or_not (schedule_seen c.args.schedule) bytes o x h) _ _ _ _ _ _ _ _ c.run-first.result c.run-second.result c.requires.reported c.run-first.ensures c.run-second.ensures

pub returns-clause-reader : goal.returns-clause-reader
returns-clause-reader g c = same_read_failed_by _ _ _ _ _ _ _ _ _ _ _ c.run-first.result c.run-second.result c.run-first.ensures c.run-second.ensures c.requires.failed

pub returns-clause-writer : goal.returns-clause-writer
returns-clause-writer g c = same_write_failed_by _ _ _ _ _ _ _ _ _ _ _ c.run-first.result c.run-second.result c.run-first.ensures c.run-second.ensures c.requires.outs.failed

pub returns-clause-flushed : goal.returns-clause-flushed
returns-clause-flushed g c = same_flushed _ _ _ _ _ _ _ _ _ _ _ c.run-first.result c.run-second.result c.run-first.ensures c.run-second.ensures c.requires.outs.flushed
