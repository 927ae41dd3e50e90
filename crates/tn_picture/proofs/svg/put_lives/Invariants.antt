use Rattle.std.proofs.Common.{◌≡◌, ◌++◌, map, drop}
use Rattle.def_picture.specs.Svg.{life_svg}
use Rattle.def_picture.specs.Templates.{each_numbered}
use Rattle.tn_picture.specs.Views.{life_seen}
use Rattle.tn_picture.proofs.svg.put_lives.Given as goal

abbrev pub invariant-loop-column : goal.invariant-loop-column
invariant-loop-column g l =
    l.out.items ++ each_numbered (life_svg (map life_seen l.lives) l.sessions) l.column (map life_seen (drop l.column l.lives)) ≡ l.fn.out.items ++ each_numbered (life_svg (map life_seen l.lives) l.sessions) 0 (map life_seen l.lives)
