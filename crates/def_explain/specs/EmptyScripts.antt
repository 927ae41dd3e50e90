-- Scripts without forms (own).
-- Depends on the tokens of a text, and on the blanks and comments between them.
use Rattle.std.specs.Prelude.{ℕ, ◌==◌, Bool, true, false, not, ◌&&◌, if◌then◌else◌, List, [], ◌∷◌}
use Rattle.def_text.specs.Tokens.{is_blank, Tokens}

-- the text has no token
abbrev pub HasNoForms : List ℕ → Type 0
HasNoForms bytes = Tokens bytes []

-- the same, computed: it is blanks and comments alone; its front is in a comment or not
abbrev pub is_gap : (inside : Bool) → List ℕ → Bool
is_gap inside [] = true
is_gap true (b ∷ bs) = is_gap (not (b == 10)) bs
is_gap false (b ∷ bs) = if b == 37 then is_gap true bs else (is_blank b && is_gap false bs)
