-- What is promised of places (own).
-- Depends on places and on where forms begin.
use Rattle.std.specs.Prelude.{◌≡◌, ℕ, ◌+◌, ◌≤◌, List, take, Some, slice_get}
use Rattle.def_text.specs.Tokens.{TokenSpan}
use Rattle.def_text.specs.Places.{LineColumn, place_at, IsPlace, after_byte}
use Rattle.def_text.specs.Forms.{full_stops, after_stops, FormBegins, IsAfterStops}

-- the place of an offset is that of the bytes before it
abbrev pub PlaceIsThere : Type 0
PlaceIsThere = (bytes : List ℕ) (at : ℕ) → IsPlace (take at bytes) (place_at bytes at)

-- and no other place is
abbrev pub PlaceIsOne : Type 0
PlaceIsOne = (passed : List ℕ) (p q : LineColumn) → IsPlace passed p → IsPlace passed q → (p.line ≡ q.line) × (p.column ≡ q.column)

-- one byte later comes the next column, or after a line feed the first column of the next line
abbrev pub OneByteOn : Type 0
OneByteOn = (bytes : List ℕ) (at b : ℕ) → slice_get bytes at ≡ Some b → place_at bytes (at + 1) ≡ after_byte (place_at bytes at) b

-- where there are so many full stops, the tokens after them are those after the last
abbrev pub FormIsAfterStops : Type 0
FormIsAfterStops = (n : ℕ) (xs : List TokenSpan) → n ≤ full_stops xs → IsAfterStops n xs (after_stops n xs)

-- a form of a text begins at one offset
abbrev pub FormOffsetIsOne : Type 0
FormOffsetIsOne = (bytes : List ℕ) (n a b : ℕ) → FormBegins bytes n a → FormBegins bytes n b → a ≡ b
