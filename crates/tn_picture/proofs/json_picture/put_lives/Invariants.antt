use Rattle.std.proofs.Common.{◌≡◌, ◌++◌, map, drop}
use Rattle.def_picture.specs.JsonPicture.{life_line}
use Rattle.def_picture.specs.Templates.{each_numbered}
use Rattle.tn_picture.specs.Views.{life_seen}
use Rattle.tn_picture.proofs.json_picture.put_lives.Given as goal

abbrev pub invariant-loop-number : goal.invariant-loop-number
invariant-loop-number g l =
    l.out.lines.items ++ each_numbered life_line l.number (map life_seen (drop l.number l.lives))
    ≡ l.fn.out.lines.items ++ each_numbered life_line 0 (map life_seen l.lives)
