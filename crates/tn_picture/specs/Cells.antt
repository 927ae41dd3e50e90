-- What a cell of a row stands for.
use Rattle.std.specs.Prelude.{ℕ, List}
use Rattle.def_picture.specs.Plain.{life_cell}
use Rattle.tn_picture.specs.Views.{life_seen}
use Rattle.tn_picture.specs.declared.plain.Cell.{Cell}

-- the life line there
abbrev pub cell_life : Cell → List ℕ
cell_life c = life_cell c.row (life_seen c.life)
