use Rattle.std.proofs.Common.{◌≡◌, ◌≤◌, ◌+◌, ◌*◌, map, sum, drop}
use Rattle.std.specs.Prelude.{fold}
use Rattle.def_picture.specs.Svg.{column_width}
use Rattle.tn_picture.specs.Views.{life_seen}
use Rattle.tn_picture.proofs.svg.columns_width.Given as goal

abbrev pub invariant-loop-life : goal.invariant-loop-life
invariant-loop-life l =
    (fold ◌+◌ l.width (map column_width (map life_seen (drop l.life-index l.lives))) ≡ sum (map column_width (map life_seen l.lives))) × (l.width ≤ 552 * l.life-index)
