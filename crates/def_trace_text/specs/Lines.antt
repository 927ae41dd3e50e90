-- The lines of a text of trace messages, and the text of the term on a line (own).
-- Depends on the blanks and comments of a text of terms.
use Rattle.std.specs.Prelude.{◌≡◌, ◌≢◌, ◌⊎◌, ℕ, ◌-◌, ◌==◌, Bool, true, false, not, List, [], ◌∷◌, ◌++◌, length, take, slice_index, if◌then◌else◌}
use Rattle.std.specs.List.{list_all}
use Rattle.std.specs.Str.Lines.{lines}
use Rattle.def_text.specs.Tokens.{is_blank, gap_len, all_are}

-- a line ends with a line feed, or with a carriage return and a line feed
abbrev pub IsLineEnd : List ℕ → Type 0
IsLineEnd end = (end ≡ 10 ∷ []) ⊎ (end ≡ 13 ∷ 10 ∷ [])

-- these are the lines of the text: none has a line feed, and each has its end after it, which the last one may lack
abbrev pub AreTextLines : List ℕ → List (List ℕ) → Type 0
AreTextLines text [] = text ≡ []
AreTextLines text (line ∷ lines) =
    (list_all (λ b. not (b == 10)) line ≡ true)
    × (((lines ≡ []) × (text ≡ line)) ⊎ ((end : List ℕ) × (rest : List ℕ) × IsLineEnd end × (text ≡ line ++ (end ++ rest)) × AreTextLines rest lines))

-- the same computed: what Rust's `str::lines` gives
abbrev pub trace_text_lines : List ℕ → List (List ℕ)
trace_text_lines text = lines text

-- a line of blanks and a comment alone, or of nothing, is passed over
abbrev pub is_passed_over : List ℕ → Bool
is_passed_over line = gap_len false line == length line

-- the last byte is neither a blank nor a full stop; or there is none
abbrev pub EndsTerm : List ℕ → Type 0
EndsTerm text = (text ≡ []) ⊎ ((front : List ℕ) × (last : ℕ) × (text ≡ front ++ last ∷ []) × (is_blank last ≡ false) × (last ≢ 46))

-- the line is this text, a full stop or none, and blanks or none
pub record IsTermText (line text : List ℕ) : Type 0 where
  pub stop : List ℕ
  pub blanks : List ℕ
  pub split : line ≡ text ++ (stop ++ blanks)
  pub blank : all_are is_blank blanks ≡ true
  pub ends : (stop ≡ 46 ∷ []) ⊎ ((stop ≡ []) × EndsTerm text)

-- the line without the blanks at its end
abbrev pub without_blanks : List ℕ → List ℕ
without_blanks [] = []
without_blanks (b ∷ bs) = if all_are is_blank (b ∷ bs) then [] else b ∷ without_blanks bs

-- the text without this byte at its end
abbrev pub without_end : ℕ → List ℕ → List ℕ
without_end c text = if slice_index text (length text - 1) == c then take (length text - 1) text else text

-- the text of the line's term: without the blanks at the end, and without a full stop before them
abbrev pub term_text : List ℕ → List ℕ
term_text line = without_end 46 (without_blanks line)
