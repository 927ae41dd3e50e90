use Rattle.std.proofs.Common.{◌∙◌, sym}
use Rattle.tn_picture.specs.Requests.{draw_by}
use Rattle.complete_workers.proofs.SameRuns.{same_flushed, same_outcome, same_read_failed_by, same_run_left, same_run_written, same_write_failed_by, says_written, seen_as}
use Rattle.complete_picture.proofs.OneDrawing.{one_drawing, draws_or_not}
use Rattle.complete_picture.proofs.job.draw.Goals as goal

pub returns-clause-outcome : goal.returns-clause-outcome
returns-clause-outcome g c =
    same_outcome (draw_by c.args.request.now) _ (λ bytes o u x y h i. (one_drawing bytes c.args.request.now o u x y h i).0) _ _ _ _ _ _ c.draw-first.result c.draw-second.result c.requires.reported c.draw-first.ensures.written
    c.draw-second.ensures.written

pub returns-clause-written : goal.returns-clause-written
returns-clause-written g c =
    same_run_written (draw_by c.args.request.now) (λ bytes o u x y h i. (one_drawing bytes c.args.request.now o u x y h i).1) _ _ _ _ _ _ c.draw-first.result c.draw-second.result c.requires.reported c.requires.outs.reported
    (says_written _ _ _ _ _ _ _ c.draw-first.result c.draw-first.ensures) (says_written _ _ _ _ _ _ _ c.draw-second.result c.draw-second.ensures)

pub returns-clause-unread : goal.returns-clause-unread
returns-clause-unread g c =
    λ none. seen_as g.R.Read.remaining _ _ (c.draw-first.ensures.unread none) ∙ c.requires.reported ∙ sym (seen_as g.R.Read.remaining _ _ (c.draw-second.ensures.unread none))

pub returns-clause-left : goal.returns-clause-left
returns-clause-left g c =
    same_run_left (draw_by c.args.request.now) _ _ (λ bytes o x h. draws_or_not bytes c.args.request.now o x h) _ _ _ _ _ _ _ _ c.draw-first.result c.draw-second.result c.requires.reported c.draw-first.ensures c.draw-second.ensures

pub returns-clause-reader : goal.returns-clause-reader
returns-clause-reader g c = same_read_failed_by _ _ _ _ _ _ _ _ _ _ _ c.draw-first.result c.draw-second.result c.draw-first.ensures c.draw-second.ensures c.requires.failed

pub returns-clause-writer : goal.returns-clause-writer
returns-clause-writer g c = same_write_failed_by _ _ _ _ _ _ _ _ _ _ _ c.draw-first.result c.draw-second.result c.draw-first.ensures c.draw-second.ensures c.requires.outs.failed

pub returns-clause-flushed : goal.returns-clause-flushed
returns-clause-flushed g c = same_flushed _ _ _ _ _ _ _ _ _ _ _ c.draw-first.result c.draw-second.result c.draw-first.ensures c.draw-second.ensures c.requires.outs.flushed
