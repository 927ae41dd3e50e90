use Rattle.std.proofs.Common.{◌≡◌, ◌≤◌, map, max, length, drop}
use Rattle.std.specs.Prelude.{fold}
use Rattle.def_picture.specs.Picture.{row_text}
use Rattle.def_picture.specs.Svg.{first_letters, longest_text}
use Rattle.tn_picture.specs.Views.{picture_row_seen}
use Rattle.tn_picture.proofs.svg.longest_text.Given as goal

abbrev pub invariant-loop-row : goal.invariant-loop-row
invariant-loop-row g l =
    (fold (λ n r. max n (length (first_letters (row_text r)))) l.longest (map picture_row_seen (drop l.row-index l.rows)) ≡ longest_text (map picture_row_seen l.rows))
    × (l.longest ≤ 102)
