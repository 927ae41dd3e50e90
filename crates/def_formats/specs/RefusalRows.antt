-- A refusal as JSON (own): its number, its line, and where and why a text is refused.
-- Depends on the parts of a line and on JSON rows. The line is that of the refusal; the note is the line that says how the text can be fixed, after the name of the text.
use Rattle.std.specs.Prelude.{ℕ, ◌-◌, List, [], ◌∷◌, length, take, drop, codes}
use Rattle.json.specs.Json.{Json, null}
use Rattle.def_formats.specs.Lines.{before_byte, past_byte}
use Rattle.def_formats.specs.JsonRows.{text_value, numeral_value, object_from, json_line}

-- the number of `refused N ..`
abbrev pub refusal_number : (line : List ℕ) → List ℕ
refusal_number line = before_byte 32 (drop 8 line)

-- without the first byte and the last
abbrev pub between_ends : List ℕ → List ℕ
between_ends text = take (length text - 2) (drop 1 text)

-- what is between the colons of `:PLACE: WHY`: LINE:COLUMN or LINE, and nothing where the whole text is refused
abbrev pub noted_place : (note : List ℕ) → List ℕ
noted_place note = between_ends (before_byte 32 note)

-- null where it is nothing
abbrev pub place_value : List ℕ → Json
place_value [] = null
place_value (c ∷ cs) = text_value (c ∷ cs)

-- {"refused":N,"line":LINE,"place":PLACE,"why":WHY}
abbrev pub refusal_row : (line note : List ℕ) → Json
refusal_row line note =
    object_from ((codes "refused", numeral_value (refusal_number (before_byte 10 line))) ∷ (codes "line", text_value (before_byte 10 line))
    ∷ (codes "place", place_value (noted_place note)) ∷ (codes "why", text_value (past_byte 32 note)) ∷ [])

abbrev pub refusal_json : (line note : List ℕ) → List ℕ
refusal_json line note = json_line (refusal_row line note)
