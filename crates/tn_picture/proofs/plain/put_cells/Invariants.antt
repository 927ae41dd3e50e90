use Rattle.std.proofs.Common.{◌≡◌, ◌++◌, map, drop}
use Rattle.def_picture.specs.Plain.{cell_text}
use Rattle.def_picture.specs.Templates.{each_numbered}
use Rattle.tn_picture.specs.Views.{life_seen, row_shape_seen}
use Rattle.tn_picture.proofs.plain.put_cells.Given as goal

abbrev pub invariant-loop-column : goal.invariant-loop-column
invariant-loop-column g l =
    l.out.items ++ each_numbered (cell_text (map life_seen l.lives) l.row (row_shape_seen l.shape)) l.column (map life_seen (drop l.column l.lives))
    ≡ l.fn.out.items ++ each_numbered (cell_text (map life_seen l.lives) l.row (row_shape_seen l.shape)) 0 (map life_seen l.lives)
