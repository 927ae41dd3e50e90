use Rattle.std.proofs.Common.{◌∙◌, sym}
use Rattle.tn_explain.specs.Accounts.{explain_by}
use Rattle.complete_workers.proofs.SameRuns.{same_flushed, same_outcome, same_read_failed_by, same_run_left, same_run_written, same_write_failed_by, says_written, seen_as}
use Rattle.complete_explain.proofs.OneExplanation.{one_explanation, explains_or_not}
use Rattle.complete_explain.proofs.job.explain.Goals as goal

pub returns-clause-outcome : goal.returns-clause-outcome
returns-clause-outcome g c =
    same_outcome (explain_by c.args.request.now) _ (λ bytes o u x y h i. (one_explanation bytes c.args.request.now o u x y h i).0) _ _ _ _ _ _ c.explain-first.result c.explain-second.result c.requires.reported c.explain-first.ensures.written
    c.explain-second.ensures.written

pub returns-clause-written : goal.returns-clause-written
returns-clause-written g c =
    same_run_written (explain_by c.args.request.now) (λ bytes o u x y h i. (one_explanation bytes c.args.request.now o u x y h i).1) _ _ _ _ _ _ c.explain-first.result c.explain-second.result c.requires.reported c.requires.outs.reported
    (says_written _ _ _ _ _ _ _ c.explain-first.result c.explain-first.ensures) (says_written _ _ _ _ _ _ _ c.explain-second.result c.explain-second.ensures)

pub returns-clause-unread : goal.returns-clause-unread
returns-clause-unread g c =
    λ none. seen_as g.R.Read.remaining _ _ (c.explain-first.ensures.unread none) ∙ c.requires.reported ∙ sym (seen_as g.R.Read.remaining _ _ (c.explain-second.ensures.unread none))

pub returns-clause-left : goal.returns-clause-left
returns-clause-left g c =
    same_run_left (explain_by c.args.request.now) _ _ (λ bytes o x h. explains_or_not bytes c.args.request.now o x h) _ _ _ _ _ _ _ _ c.explain-first.result c.explain-second.result c.requires.reported c.explain-first.ensures c.explain-second.ensures

pub returns-clause-reader : goal.returns-clause-reader
returns-clause-reader g c = same_read_failed_by _ _ _ _ _ _ _ _ _ _ _ c.explain-first.result c.explain-second.result c.explain-first.ensures c.explain-second.ensures c.requires.failed

pub returns-clause-writer : goal.returns-clause-writer
returns-clause-writer g c = same_write_failed_by _ _ _ _ _ _ _ _ _ _ _ c.explain-first.result c.explain-second.result c.explain-first.ensures c.explain-second.ensures c.requires.outs.failed

pub returns-clause-flushed : goal.returns-clause-flushed
returns-clause-flushed g c = same_flushed _ _ _ _ _ _ _ _ _ _ _ c.explain-first.result c.explain-second.result c.explain-first.ensures c.explain-second.ensures c.requires.outs.flushed
