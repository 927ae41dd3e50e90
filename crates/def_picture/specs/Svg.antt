-- The text of a picture as a graphic ("Scalable Vector Graphics 2").
-- Depends on pictures and on templates. Lengths are in pixels; a process is a column, an event is a row.
use Rattle.std.specs.Prelude.{ℕ, ◌+◌, ◌*◌, ◌==◌, nat_lt, Bool, min, max, if◌then◌else◌, List, [], ◌∷◌, ◌++◌, take, map, sum, fold, flat_map, length, codes}
use Rattle.def_term.specs.Names.{Name}
use Rattle.def_term.specs.Text.{atom_text}
use Rattle.def_node.specs.Process.{FRAMES}
use Rattle.def_picture.specs.Picture.{Shape, arrow, frame_start, frame_end, birth, death, dot, command_line, Report, PictureRow, Life, Picture, column_of, row_text}
use Rattle.def_picture.specs.Templates.{fill, each_numbered, xml_text}

-- ---- places

-- the width of the column of a process: each frame is farther to the right of its line than the one that it was called by
abbrev pub column_width : Life → ℕ
column_width l = max 110 (8 * min l.depth FRAMES + 40)

-- the line of the process in a column; that of the column after the last one is where the last one ends
abbrev pub column_x : List Life → ℕ → ℕ
column_x ls column = 80 + sum (map column_width (take column ls))

-- the line of a process
abbrev pub process_x : List Life → ℕ → ℕ
process_x ls p = column_x ls (column_of ls p)

-- where the columns end
abbrev pub columns_end : List Life → ℕ
columns_end ls = column_x ls (length ls)

-- the line of a row, below the header, which has a line for each session
abbrev pub row_y : (sessions row : ℕ) → ℕ
row_y sessions row = 80 + 20 * sessions + 24 * row

-- the line of a session's messages, right of the columns, which are right of the texts
abbrev pub session_x : List Life → (session : ℕ) → ℕ
session_x ls session = columns_end ls + 20 * session

-- the colour of a session is an angle of the circle of hues; neighbours are far apart
abbrev pub hue_of : ℕ → ℕ
hue_of session = 137 * session

-- ---- shapes

-- an arrow to the right or to the left
unfoldable pub arrow_svg : (x1 x2 y : ℕ) → List ℕ
arrow_svg x1 x2 y =
    if nat_lt x1 x2
    then fill (codes "<path d=\"M@ @H@l-8 -4m8 4l-8 4\"/>") (x1 ∷ y ∷ x2 ∷ [])
    else fill (codes "<path d=\"M@ @H@l8 -4m-8 4l8 4\"/>") (x1 ∷ y ∷ x2 ∷ [])

-- a shape at this height; the deeper a frame, the farther to the right
unfoldable pub shape_svg : List Life → ℕ → Shape → List ℕ
shape_svg ls y (arrow p q) = arrow_svg (process_x ls p) (process_x ls q) y
shape_svg ls y (frame_start p d) = fill (codes "<path d=\"M@ @v-6l9 6l-9 6z\"/>") ((process_x ls p + 8 * d) ∷ y ∷ [])
shape_svg ls y (frame_end p d) = fill (codes "<path d=\"M@ @l9 -6v12z\"/>") ((process_x ls p + 8 * d) ∷ y ∷ [])
shape_svg ls y (birth p) = fill (codes "<circle cx=\"@\" cy=\"@\" r=\"6\"/>") (process_x ls p ∷ y ∷ [])
shape_svg ls y (death p) = fill (codes "<path d=\"M@ @m-6 -6l12 12m0 -12l-12 12\"/>") (process_x ls p ∷ y ∷ [])
shape_svg ls y (dot p) = fill (codes "<circle cx=\"@\" cy=\"@\" r=\"3\"/>") (process_x ls p ∷ y ∷ [])
shape_svg ls y command_line = fill (codes "<path d=\"M50 @H@\"/>") (y ∷ columns_end ls ∷ [])

-- ---- rows

-- the start of a group in the colour of a session, and of its tooltip
unfoldable pub group_svg : (session : ℕ) → List ℕ
group_svg session = fill (codes "<g fill=\"none\" stroke=\"hsl(@,90%,35%)\" stroke-width=\"2\"><title>") (hue_of session ∷ [])

-- a spot on the line of a session, and the end of its group
unfoldable pub spot_svg : List Life → (session y : ℕ) → List ℕ
spot_svg ls session y = fill (codes "<circle cx=\"@\" cy=\"@\" r=\"4\" fill=\"hsl(@,90%,35%)\"/></g>\n") (session_x ls session ∷ y ∷ hue_of session ∷ [])

-- a message: the row's shape and a spot in the colour of the session, with the message as tooltip
unfoldable pub report_svg : List Life → ℕ → Shape → Report → List ℕ
report_svg ls y shape r = group_svg r.session ++ xml_text r.text ++ codes "</title>" ++ shape_svg ls y shape ++ spot_svg ls r.session y

-- a shape that no session reports is dashed
unfoldable pub dashed_svg : List Life → ℕ → Shape → List ℕ
dashed_svg ls y shape = codes "<g fill=\"none\" stroke=\"#777\" stroke-dasharray=\"3 1\">" ++ shape_svg ls y shape ++ codes "</g>\n"

-- the marks of a row
unfoldable pub marks_svg : List Life → ℕ → Shape → List Report → List ℕ
marks_svg ls y shape rs = (if length rs == 0 then dashed_svg ls y shape else []) ++ flat_map (report_svg ls y shape) rs

-- the number of a move
unfoldable pub move_svg : (y move : ℕ) → List ℕ
move_svg y move = fill (codes "<text x=\"8\" y=\"@\">@</text>") ((y + 4) ∷ move ∷ [])

-- the start of a text at this place, which is grey where no session reports the row
unfoldable pub label_svg : (x y : ℕ) → List Report → List ℕ
label_svg x y rs =
    if length rs == 0
    then fill (codes "<text x=\"@\" y=\"@\" fill=\"#777\">") (x ∷ (y + 4) ∷ [])
    else fill (codes "<text x=\"@\" y=\"@\">") (x ∷ (y + 4) ∷ [])

-- a text has more letters than are shown
abbrev pub is_long : List ℕ → Bool
is_long text = nat_lt 100 (length text)

-- its first letters, and two dots where there are more
abbrev pub first_letters : List ℕ → List ℕ
first_letters text = if is_long text then take 100 text ++ codes ".." else text

-- a long text is whole in a tooltip
abbrev pub whole_svg : List ℕ → List ℕ
whole_svg text = if is_long text then codes "<title>" ++ xml_text text ++ codes "</title>" else []

-- the text of a row: the number of its move, and what it shows
unfoldable pub row_text_svg : (sessions : ℕ) → ℕ → PictureRow → List ℕ
row_text_svg sessions n row =
    move_svg (row_y sessions n) row.move ++ label_svg 60 (row_y sessions n) row.reports ++ whole_svg (row_text row) ++ xml_text (first_letters (row_text row))
    ++ codes "</text>\n"

-- the marks of a row
unfoldable pub row_marks_svg : (sessions : ℕ) → List Life → ℕ → PictureRow → List ℕ
row_marks_svg sessions ls n row = marks_svg ls (row_y sessions n) row.shape row.reports

-- ---- the header

-- the start of the name of a session, in its colour
unfoldable pub legend_svg : ℕ → List ℕ
legend_svg n = fill (codes "<text x=\"60\" y=\"@\" fill=\"hsl(@,90%,35%)\">session ") ((10 + 20 * n) ∷ hue_of n ∷ [])

-- the name of a session
unfoldable pub session_svg : ℕ → Name → List ℕ
session_svg n s = legend_svg n ++ xml_text (atom_text s) ++ codes "</text>\n"

-- the pid of a process over its life line
unfoldable pub life_svg : List Life → (sessions column : ℕ) → Life → List ℕ
life_svg ls sessions column l =
    fill (codes "<text x=\"@\" y=\"@\" text-anchor=\"middle\">&lt;0.@.0&gt;</text><path d=\"M@ @V@\" stroke=\"#bbb\"/>\n")
    (column_x ls column ∷ (50 + 20 * sessions) ∷ l.pid ∷ column_x ls column ∷ row_y sessions l.first ∷ row_y sessions l.last ∷ [])

-- ---- the whole

-- the longest text of a row, as it is shown
abbrev pub longest_text : List PictureRow → ℕ
longest_text rs = fold (λ n r. max n (length (first_letters (row_text r)))) 0 rs

-- how far the columns are moved to the right, so that they are beside the texts, whose letters are 8 pixels wide
unfoldable pub columns_shift : Picture → ℕ
columns_shift p = 8 * longest_text p.rows + 10

-- the width
unfoldable pub width_of : Picture → ℕ
width_of p = columns_shift p + session_x p.lives (length p.sessions) + 20

-- the height
unfoldable pub height_of : Picture → ℕ
height_of p = row_y (length p.sessions) (length p.rows)

-- the root element
unfoldable pub head_svg : (width height : ℕ) → List ℕ
head_svg width height =
    fill (codes "<svg xmlns=\"http://www.w3.org/2000/svg\" width=\"@\" height=\"@\" font-family=\"monospace\" font-size=\"13\">\n<rect width=\"100%\" height=\"100%\" fill=\"#fff\"/>\n") (width ∷ height ∷ [])

-- the start of the columns
unfoldable pub columns_svg : (shift : ℕ) → List ℕ
columns_svg shift = fill (codes "<g transform=\"translate(@)\">\n") (shift ∷ [])

-- the sessions, which are numbered from 1, the texts of the rows, which are numbered from 0, and beside them the life lines with the marks of the rows
abbrev pub svg_text : Picture → List ℕ
svg_text p =
    let sessions : ℕ = length p.sessions in
    head_svg (width_of p) (height_of p) ++ each_numbered session_svg 1 p.sessions ++ each_numbered (row_text_svg sessions) 0 p.rows
    ++ columns_svg (columns_shift p) ++ each_numbered (life_svg p.lives sessions) 0 p.lives ++ each_numbered (row_marks_svg sessions p.lives) 0 p.rows
    ++ codes "</g>\n</svg>\n"
