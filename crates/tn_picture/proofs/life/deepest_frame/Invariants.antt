use Rattle.std.proofs.Common.{◌≡◌, map, max, drop}
use Rattle.std.specs.Prelude.{fold}
use Rattle.def_picture.specs.Picture.{frame_depth, deepest_frame}
use Rattle.tn_picture.specs.Views.{picture_row_seen}
use Rattle.tn_picture.proofs.life.deepest_frame.Given as goal

abbrev pub invariant-loop-row : goal.invariant-loop-row
invariant-loop-row g l =
    fold (λ n r. max n (frame_depth l.pid r.shape)) l.deepest (map picture_row_seen (drop l.row-index l.rows)) ≡ deepest_frame (map picture_row_seen l.rows) l.pid
