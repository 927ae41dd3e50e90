-- Rows: places of small texts, and where the forms of small lists of tokens begin.
use Rattle.std.proofs.Common.{◌≡◌, ℕ, List, [], ◌∷◌, codes, refl}
use Rattle.def_text.specs.Tokens.{Token, TokenSpan, stop, comma}
use Rattle.def_text.specs.Spelling.{offset_of}
use Rattle.def_text.specs.Places.{place_at}
use Rattle.def_text.specs.Forms.{after_stops}

-- the first byte
pub first_byte : place_at (codes "ab") 0 ≡ record { line = 1; column = 1 }
first_byte = refl

-- the third byte of a line
pub third_byte : place_at (codes "abc") 2 ≡ record { line = 1; column = 3 }
third_byte = refl

-- a line feed stands in the last column of its line
pub line_feed : place_at (97 ∷ 10 ∷ 98 ∷ []) 1 ≡ record { line = 1; column = 2 }
line_feed = refl

-- and after it the next line begins
pub next_line : place_at (97 ∷ 10 ∷ 98 ∷ []) 2 ≡ record { line = 2; column = 1 }
next_line = refl

-- an empty line counts
pub empty_line : place_at (10 ∷ 10 ∷ 98 ∷ 99 ∷ []) 3 ≡ record { line = 3; column = 2 }
empty_line = refl

-- the end of a text without a line feed at its end
pub end_of_text : place_at (97 ∷ 10 ∷ 98 ∷ []) 3 ≡ record { line = 2; column = 2 }
end_of_text = refl

-- past the end
pub past_end : place_at (97 ∷ 10 ∷ []) 9 ≡ record { line = 2; column = 1 }
past_end = refl

abbrev pub span : Token → ℕ → ℕ → TokenSpan
span t from to = record { token = t; from = from; to = to }

-- `,. ,.` and a comma after it, at the offset 6
abbrev pub three : List TokenSpan
three = span comma 0 1 ∷ span stop 1 2 ∷ span comma 3 4 ∷ span stop 4 5 ∷ span comma 6 7 ∷ []

pub first_form : offset_of 7 (after_stops 0 three) ≡ 0
first_form = refl

pub second_form : offset_of 7 (after_stops 1 three) ≡ 3
second_form = refl

pub third_form : offset_of 7 (after_stops 2 three) ≡ 6
third_form = refl

-- there are no three full stops
pub no_form : offset_of 7 (after_stops 3 three) ≡ 7
no_form = refl
