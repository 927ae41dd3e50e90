-- A place inside of a text, as a line names it (own).
-- Depends on places.
use Rattle.std.specs.Prelude.{ℕ, List, ◌++◌, codes, decimal}
use Rattle.def_text.specs.Places.{place_at}

-- LINE:COLUMN of an offset
abbrev pub spot_text : List ℕ → ℕ → List ℕ
spot_text bytes at = decimal (place_at bytes at).line ++ codes ":" ++ decimal (place_at bytes at).column
