-- Where the forms of a script begin (own).
-- Depends on the tokens of a text.
use Rattle.std.specs.Prelude.{◌≡◌, ℕ, zero, suc, ◌+◌, ◌-◌, List, [], ◌∷◌, ◌++◌, length, Bool, true, false, ◌⊎◌, if◌then◌else◌}
use Rattle.def_text.specs.Tokens.{Token, stop, TokenSpan, Tokens}
use Rattle.def_text.specs.Spelling.{offset_of}

-- a full stop
abbrev pub is_stop : Token → Bool
is_stop stop = true
is_stop t = false

-- how many full stops there are
abbrev pub full_stops : List TokenSpan → ℕ
full_stops [] = 0
full_stops (x ∷ xs) = if is_stop x.token then full_stops xs + 1 else full_stops xs

-- the tokens after so many full stops; none where there are fewer
abbrev pub after_stops : ℕ → List TokenSpan → List TokenSpan
after_stops zero xs = xs
after_stops (suc n) [] = []
after_stops (suc n) (x ∷ xs) = if is_stop x.token then after_stops n xs else after_stops (suc n) xs

-- form n of the text, counted from 1, begins at that offset: at the first token after n - 1 full stops, or at the text's end where no token is left
pub record FormBegins (bytes : List ℕ) (n at : ℕ) : Type 0 where
  pub tokens : List TokenSpan
  pub are : Tokens bytes tokens
  pub offset : at ≡ offset_of (length bytes) (after_stops (n - 1) tokens)

-- nothing, or tokens of which the last is a full stop
abbrev pub EndsForm : List TokenSpan → Type 0
EndsForm xs = (xs ≡ []) ⊎ ((front : List TokenSpan) × (last : TokenSpan) × (xs ≡ front ++ last ∷ []) × (is_stop last.token ≡ true))

-- the rest of the tokens after so many full stops, the last of which is right before it
pub record IsAfterStops (n : ℕ) (xs rest : List TokenSpan) : Type 0 where
  pub front : List TokenSpan
  pub split : xs ≡ front ++ rest
  pub count : full_stops front ≡ n
  pub ends : EndsForm front
