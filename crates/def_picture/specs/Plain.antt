-- The text of a picture for a terminal (own).
-- Depends on pictures. A process is a column of 12 letters, an event is a line.
use Rattle.std.specs.Prelude.{ℕ, ◌-◌, ◌==◌, nat_lt, nat_le, ◌&&◌, ◌||◌, if◌then◌else◌, List, [], ◌∷◌, ◌++◌, flat_map, length, replicate, codes, decimal}
use Rattle.def_term.specs.Names.{Name}
use Rattle.def_term.specs.Text.{atom_text}
use Rattle.def_picture.specs.Picture.{Shape, arrow, frame_start, frame_end, birth, death, dot, command_line, Report, PictureRow, Life, Picture, column_of, row_text}
use Rattle.def_picture.specs.Templates.{fill, each_numbered}

-- a text with this letter after it, to a width
unfoldable pub pad : (width letter : ℕ) → List ℕ → List ℕ
pad width letter text = text ++ replicate (width - length text) letter

-- ---- cells

-- the life line of a process, where it lives at this row
unfoldable pub life_cell : ℕ → Life → List ℕ
life_cell row l = pad 12 32 (if nat_le l.first row && nat_le row l.last then codes "|" else [])

-- of an arrow between these columns: its line right of the column, or left of it
unfoldable pub arrow_cell : (source target n : ℕ) → List ℕ → List ℕ
arrow_cell source target n other =
    if n == source then pad 12 (if nat_lt source target then 45 else 32) (codes "*") else
    if n == target then pad 12 (if nat_lt target source then 45 else 32) (if nat_lt source target then codes ">" else codes "<") else
    if nat_lt source n && nat_lt n target || nat_lt target n && nat_lt n source then pad 12 45 [] else other

-- a mark in the column of a process
unfoldable pub mark_cell : (column n : ℕ) → (mark other : List ℕ) → List ℕ
mark_cell column n mark other = if n == column then pad 12 32 mark else other

-- what a shape has in the column of this number, where else there is something else
unfoldable pub shape_cell : List Life → ℕ → Shape → List ℕ → List ℕ
shape_cell ls n (arrow p q) other = arrow_cell (column_of ls p) (column_of ls q) n other
shape_cell ls n (frame_start p d) other = mark_cell (column_of ls p) n (fill (codes "[@") (d ∷ [])) other
shape_cell ls n (frame_end p d) other = mark_cell (column_of ls p) n (fill (codes "]@") (d ∷ [])) other
shape_cell ls n (birth p) other = mark_cell (column_of ls p) n (codes "+") other
shape_cell ls n (death p) other = mark_cell (column_of ls p) n (codes "x") other
shape_cell ls n (dot p) other = mark_cell (column_of ls p) n (codes "o") other
shape_cell ls n command_line other = pad 12 32 (codes "===========")

-- ---- lines

-- the cell of a column
unfoldable pub cell_text : (all : List Life) → (row : ℕ) → Shape → ℕ → Life → List ℕ
cell_text all row shape n l = shape_cell all n shape (life_cell row l)

-- the numbers of the sessions that report a row
unfoldable pub reporters_text : List Report → List ℕ
reporters_text rs = flat_map (λ r. fill (codes " =>@") (r.session ∷ [])) rs

-- a row: the number of its move, its cells, what it shows and who reports it
unfoldable pub row_plain : List Life → ℕ → PictureRow → List ℕ
row_plain ls n row = pad 8 32 (decimal row.move) ++ each_numbered (cell_text ls n row.shape) 0 ls ++ row_text row ++ reporters_text row.reports ++ codes "\n"

-- ---- the header

-- the number and the name of a session
unfoldable pub session_plain : ℕ → Name → List ℕ
session_plain n s = fill (codes "=>@ session ") (n ∷ []) ++ atom_text s ++ codes "\n"

-- the pid of each process over its column
unfoldable pub lives_plain : List Life → List ℕ
lives_plain ls = flat_map (λ l. pad 12 32 (fill (codes "<0.@.0>") (l.pid ∷ []))) ls

-- the sessions, which are numbered from 1, the pids, and the rows, which are numbered from 0
abbrev pub plain_text : Picture → List ℕ
plain_text p = each_numbered session_plain 1 p.sessions ++ pad 8 32 [] ++ lives_plain p.lives ++ codes "\n" ++ each_numbered (row_plain p.lives) 0 p.rows
