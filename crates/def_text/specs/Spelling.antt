-- Which term a text spells, and how a text that spells none is refused.
-- Depends on the tokens, the grammar, the limits and the first fault (own).
use Rattle.std.specs.Prelude.{◌≡◌, ℕ, ◌≤◌, List, [], ◌∷◌, ◌++◌, length, map, true}
use Rattle.def_term.specs.Tree.{Tree}
use Rattle.def_text.specs.Tokens.{Token, TokenSpan, Tokens}
use Rattle.def_text.specs.Grammar.{Derives}
use Rattle.def_text.specs.Limits.{DEPTH, Fits}
use Rattle.def_text.specs.Faults.{FaultKind, IsFirstFault}

-- a text has at most 1,048,576 bytes (own)
abbrev pub LENGTH : ℕ
LENGTH = 1048576

-- the tokens without their offsets
abbrev pub tokens_of : List TokenSpan → List Token
tokens_of xs = map (λ x. x.token) xs

-- the tokens of the bytes derive the term within the limits
pub record Spells (bytes : List ℕ) (t : Tree) : Type 0 where
  pub short : length bytes ≤ LENGTH
  pub tokens : List TokenSpan
  pub are : Tokens bytes tokens
  pub derives : Derives (tokens_of tokens) t
  pub fits : Fits DEPTH true t

-- the offset of the first byte of the first of these tokens, or the text's length where none is left
abbrev pub offset_of : ℕ → List TokenSpan → ℕ
offset_of end [] = end
offset_of end (x ∷ xs) = x.from

-- the text is refused with this refusal, at the offset of the first byte of the refused token
pub record IsRefusedAt (bytes : List ℕ) (kind : FaultKind) (at : ℕ) : Type 0 where
  pub short : length bytes ≤ LENGTH
  pub front : List TokenSpan
  pub rest : List TokenSpan
  pub are : Tokens bytes (front ++ rest)
  pub first : IsFirstFault DEPTH (tokens_of (front ++ rest)) (kind, tokens_of rest)
  pub offset : at ≡ offset_of (length bytes) rest
