use Rattle.std.proofs.Common.{◌≡◌, ◌++◌, map, drop, flat_map}
use Rattle.def_picture.specs.Picture.{births, life_of}
use Rattle.tn_picture.specs.Views.{life_seen, picture_row_seen}
use Rattle.tn_picture.proofs.life.put_births.Given as goal

abbrev pub invariant-loop-row : goal.invariant-loop-row
invariant-loop-row g l =
    map life_seen l.lives.items ++ map (life_of (map picture_row_seen l.rows)) (flat_map (λ r. births r.shape) (map picture_row_seen (drop l.row-index l.rows)))
    ≡ map life_seen l.fn.lives.items ++ map (life_of (map picture_row_seen l.rows)) (flat_map (λ r. births r.shape) (map picture_row_seen l.rows))
