-- Places in a text (own): the line and the column of an offset. Both are counted from 1, and a column counts bytes.
-- Depends on nothing.
use Rattle.std.specs.Prelude.{◌≡◌, ℕ, ◌+◌, ◌==◌, List, [], ◌∷◌, ◌++◌, length, take, ◌⊎◌, if◌then◌else◌}

-- a line and a column, both from 1
pub record LineColumn : Type 0 where
  pub line : ℕ
  pub column : ℕ

-- how many line feeds there are, which is how many lines end
abbrev pub line_feeds : List ℕ → ℕ
line_feeds [] = 0
line_feeds (b ∷ bs) = if b == 10 then line_feeds bs + 1 else line_feeds bs

-- the column after these bytes, the first of which is in that column: each byte is one column, and a line feed is the last byte of its line
abbrev pub column_from : ℕ → List ℕ → ℕ
column_from c [] = c
column_from c (b ∷ bs) = column_from (if b == 10 then 1 else c + 1) bs

-- the place after these first bytes of a text: its line is one more than the number of lines that end in them
abbrev pub place_after : List ℕ → LineColumn
place_after passed = record { line = line_feeds passed + 1; column = column_from 1 passed }

-- the place of the byte at that offset of the text, counted from 0; past the text, that of its end
abbrev pub place_at : List ℕ → ℕ → LineColumn
place_at bytes at = place_after (take at bytes)

-- lines with their line feeds, and nothing after the last
abbrev pub AreLines : List ℕ → Type 0
AreLines bytes = (bytes ≡ []) ⊎ ((front : List ℕ) × (bytes ≡ front ++ 10 ∷ []))

-- the bytes before a place: so many whole lines as come before its line, and then so many bytes without a line feed as come before its column
pub record IsPlace (passed : List ℕ) (p : LineColumn) : Type 0 where
  pub lines : List ℕ
  pub rest : List ℕ
  pub split : passed ≡ lines ++ rest
  pub whole : AreLines lines
  pub within : line_feeds rest ≡ 0
  pub line : p.line ≡ line_feeds lines + 1
  pub column : p.column ≡ length rest + 1

-- the place one byte on: the next line's first column after a line feed, else the next column
abbrev pub after_byte : LineColumn → ℕ → LineColumn
after_byte p b = record { line = (if b == 10 then p.line + 1 else p.line); column = (if b == 10 then 1 else p.column + 1) }
