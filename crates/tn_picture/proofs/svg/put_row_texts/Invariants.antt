use Rattle.std.proofs.Common.{◌≡◌, ◌++◌, map, drop}
use Rattle.def_picture.specs.Svg.{row_text_svg}
use Rattle.def_picture.specs.Templates.{each_numbered}
use Rattle.tn_picture.specs.Views.{picture_row_seen}
use Rattle.tn_picture.proofs.svg.put_row_texts.Given as goal

abbrev pub invariant-loop-number : goal.invariant-loop-number
invariant-loop-number g l =
    l.out.items ++ each_numbered (row_text_svg l.sessions) l.number (map picture_row_seen (drop l.number l.rows))
    ≡ l.fn.out.items ++ each_numbered (row_text_svg l.sessions) 0 (map picture_row_seen l.rows)
