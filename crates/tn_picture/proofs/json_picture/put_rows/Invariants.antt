use Rattle.std.proofs.Common.{◌≡◌, ◌++◌, map, drop}
use Rattle.def_picture.specs.JsonPicture.{row_line}
use Rattle.def_picture.specs.Templates.{each_numbered}
use Rattle.tn_picture.specs.Views.{picture_row_seen}
use Rattle.tn_picture.proofs.json_picture.put_rows.Given as goal

abbrev pub invariant-loop-number : goal.invariant-loop-number
invariant-loop-number g l =
    l.out.lines.items ++ each_numbered row_line l.number (map picture_row_seen (drop l.number l.rows))
    ≡ l.fn.out.lines.items ++ each_numbered row_line 0 (map picture_row_seen l.rows)
