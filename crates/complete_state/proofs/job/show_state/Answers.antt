use Rattle.std.proofs.Common.{◌∙◌, sym}
use Rattle.tn_state.specs.Requests.{state_by}
use Rattle.complete_workers.proofs.SameRuns.{same_flushed, same_outcome, same_read_failed_by, same_run_left, same_run_written, same_write_failed_by, says_written, seen_as}
use Rattle.complete_state.proofs.OneState.{one_state, shows_or_not}
use Rattle.complete_state.proofs.job.show_state.Goals as goal

pub returns-clause-outcome : goal.returns-clause-outcome
returns-clause-outcome g c =
    same_outcome (state_by c.args.request.now) _ (λ bytes o u x y h i. (one_state bytes c.args.request.now o u x y h i).0) _ _ _ _ _ _ c.show_state-first.result c.show_state-second.result c.requires.reported c.show_state-first.ensures.written
    c.show_state-second.ensures.written

pub returns-clause-written : goal.returns-clause-written
returns-clause-written g c =
    same_run_written (state_by c.args.request.now) (λ bytes o u x y h i. (one_state bytes c.args.request.now o u x y h i).1) _ _ _ _ _ _ c.show_state-first.result c.show_state-second.result c.requires.reported c.requires.outs.reported
    (says_written _ _ _ _ _ _ _ c.show_state-first.result c.show_state-first.ensures) (says_written _ _ _ _ _ _ _ c.show_state-second.result c.show_state-second.ensures)

pub returns-clause-unread : goal.returns-clause-unread
returns-clause-unread g c =
    λ none. seen_as g.R.Read.remaining _ _ (c.show_state-first.ensures.unread none) ∙ c.requires.reported ∙ sym (seen_as g.R.Read.remaining _ _ (c.show_state-second.ensures.unread none))

pub returns-clause-left : goal.returns-clause-left
returns-clause-left g c =
    same_run_left (state_by c.args.request.now) _ _ (λ bytes o x h. shows_or_not bytes c.args.request.now o x h) _ _ _ _ _ _ _ _ c.show_state-first.result c.show_state-second.result c.requires.reported c.show_state-first.ensures c.show_state-second.ensures

pub returns-clause-reader : goal.returns-clause-reader
returns-clause-reader g c = same_read_failed_by _ _ _ _ _ _ _ _ _ _ _ c.show_state-first.result c.show_state-second.result c.show_state-first.ensures c.show_state-second.ensures c.requires.failed

pub returns-clause-writer : goal.returns-clause-writer
returns-clause-writer g c = same_write_failed_by _ _ _ _ _ _ _ _ _ _ _ c.show_state-first.result c.show_state-second.result c.show_state-first.ensures c.show_state-second.ensures c.requires.outs.failed

pub returns-clause-flushed : goal.returns-clause-flushed
returns-clause-flushed g c = same_flushed _ _ _ _ _ _ _ _ _ _ _ c.show_state-first.result c.show_state-second.result c.show_state-first.ensures c.show_state-second.ensures c.requires.outs.flushed
