-- The texts of lists of picks (own).
-- Depends on the length of a text.
use Rattle.std.specs.Prelude.{◌≡◌, ℕ, ◌^◌, ◌<◌, ◌≤◌, List, length, map, All, decimal}
use Rattle.std.specs.List.{join_with_byte}
use Rattle.def_text.specs.Spelling.{LENGTH}

-- the picks, separated by single spaces
abbrev pub picks_text : List ℕ → List ℕ
picks_text picks = join_with_byte 32 (map decimal picks)

-- the text is the picks' decimal numbers, without leading zeros, each at most 4,294,967,295, with one space between each two
pub record SpellsPicks (text picks : List ℕ) : Type 0 where
  pub short : length text ≤ LENGTH
  pub fit : All (λ p. p < 2 ^ 32) picks
  pub spelled : text ≡ picks_text picks
