-- Where forms begin, in a text of tokens.
-- Depends on where forms begin, and on the tokens of a text.
use Rattle.std.specs.Prelude.{ℕ, ◌≤◌, List, length, Option, Some, None}
use Rattle.def_text.specs.Tokens.{TokenSpan, Tokens}
use Rattle.def_text.specs.Spelling.{LENGTH}
use Rattle.def_text.specs.Forms.{FormBegins}
use Rattle.tn_text.specs.Lexer.{AllGood}

-- a text within the length, each byte of which is of a token or between tokens
pub record IsListable (bytes : List ℕ) : Type 0 where
  pub short : length bytes ≤ LENGTH
  pub tokens : List TokenSpan
  pub are : Tokens bytes tokens
  pub good : AllGood tokens

-- the offset at which the form begins; none where the text is too long or has bytes that form no token
abbrev pub IsFormOffset : List ℕ → ℕ → Option ℕ → Type 0
IsFormOffset bytes n (Some at) = FormBegins bytes n at
IsFormOffset bytes n None = IsListable bytes → ⊥
