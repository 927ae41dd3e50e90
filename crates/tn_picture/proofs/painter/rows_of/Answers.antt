use Rattle.std.proofs.Common.{◌∙◌, ◌++◌, map, ap}
use Rattle.def_picture.specs.Picture.{rows_of}
use Rattle.tn_program.specs.Views.{program_of}
use Rattle.tn_moves.specs.Plans.{plan_picks}
use Rattle.tn_moves.proofs.Drives.{all_added}
use Rattle.tn_picture.specs.Views.{picture_row_seen}
use Rattle.tn_picture.specs.Painters.{AddsRows}
use Rattle.tn_picture.proofs.PaintedMoves.{run_painted}
use Rattle.tn_picture.proofs.painter.rows_of.Goals as goal

pub returns : goal.returns
returns g c =
    let p = program_of c.args.program.now in
    let picks = plan_picks p c.args.plan.now in
    let painter = c.in_ok-painter.painter in
    let r = c.in_ok-drive.field-0 in
    run_painted p picks painter r.observer c.new-rows.result c.drive.new.out (all_added AddsRows p picks painter r.observer c.new-rows.result c.drive.new.out c.in_ok-drive.ensures.driven.added)
    ∙ ap (λ l. map picture_row_seen l ++ rows_of p picks) c.new-rows.ensures.items
