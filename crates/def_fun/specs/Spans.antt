-- Lists of tokens, of any language whose tokens have blanks and comments between them (own).
-- Depends on the blanks and comments of written terms.
use Rattle.std.specs.Prelude.{◌≡◌, ℕ, ◌+◌, List, [], ◌∷◌, ◌++◌, length, drop, false}
use Rattle.def_text.specs.Tokens.{gap_len}

-- a token with its span: the offsets of its first byte and of the byte after it
pub record SpanOf (T : Type 0) : Type 0 where
  pub token : T
  pub from : ℕ
  pub to : ℕ

-- the first token after the blanks and comments, of bytes whose first is at that offset; `IsAtFront` says which token some bytes are, with the rest after them
pub record IsNextOf (T : Type 0) (IsAtFront : List ℕ → List ℕ → T → Type 0) (at : ℕ) (bytes u rest : List ℕ) (x : SpanOf T) : Type 0 where
  pub split : drop (gap_len false bytes) bytes ≡ u ++ rest
  pub from : x.from ≡ at + gap_len false bytes
  pub to : x.to ≡ x.from + length u
  pub stands : IsAtFront u rest x.token

-- these are the tokens of the bytes, the first of which is at that offset, with blanks and comments between them
abbrev pub SpansFrom : (T : Type 0) → (List ℕ → List ℕ → T → Type 0) → ℕ → List ℕ → List (SpanOf T) → Type 0
SpansFrom T IsAtFront at bytes [] = drop (gap_len false bytes) bytes ≡ []
SpansFrom T IsAtFront at bytes (x ∷ xs) = (u : List ℕ) × (rest : List ℕ) × IsNextOf T IsAtFront at bytes u rest x × SpansFrom T IsAtFront x.to rest xs
