-- What stands next in a text, and how the code's tokens show those of the definition.
use Rattle.std.specs.Prelude.{◌≡◌, ◌≢◌, ℕ, ◌+◌, ◌-◌, ◌<◌, ◌≤◌, List, [], ◌∷◌, take, drop, length, false}
use Rattle.tn_text.specs.declared.lexer.Token.{Token}
use Rattle.tn_text.specs.declared.lexer.NextToken.{NextToken}
use Rattle.tn_text.specs.declared.lexer.NextToken.TheVariants as answers
use Rattle.tn_text.specs.Kinds.{kind_of}
use Rattle.def_text.specs.Scan.{IsTokenOf}
use Rattle.def_text.specs.Tokens as text
use Rattle.def_text.specs.Tokens.{gap_len, TokenSpan, IsNextToken, HasNoToken}

-- the kind and the span of the token of the text
pub record ShowsToken (bytes : List ℕ) (v : Token) (x : TokenSpan) : Type 0 where
  pub kind : IsTokenOf (kind_of v.kind) (take (v.to - v.from) (drop v.from bytes)) (drop v.to bytes) x.token
  pub from : v.from ≡ x.from
  pub to : v.to ≡ x.to

abbrev pub AllShown : List ℕ → List Token → List TokenSpan → Type 0
AllShown bytes [] [] = Unit {0}
AllShown bytes [] (x ∷ xs) = ⊥
AllShown bytes (v ∷ vs) [] = ⊥
AllShown bytes (v ∷ vs) (x ∷ xs) = ShowsToken bytes v x × AllShown bytes vs xs

-- none of them is bytes that form no token
abbrev pub AllGood : List TokenSpan → Type 0
AllGood [] = Unit {0}
AllGood (x ∷ xs) = (x.token ≢ text.bad) × AllGood xs

-- the first token from that offset on, with its bytes
pub record StandsAt (bytes : List ℕ) (at : ℕ) (v : Token) : Type 0 where
  pub spanned : TokenSpan
  pub token : List ℕ
  pub next : IsNextToken at (drop at bytes) token (drop v.to bytes) spanned
  pub kind : IsTokenOf (kind_of v.kind) token (drop v.to bytes) spanned.token
  pub from : v.from ≡ spanned.from
  pub to : v.to ≡ spanned.to
  pub good : spanned.token ≢ text.bad
  pub more : at < v.to
  pub fits : v.to ≤ length bytes

-- no token stands after the blanks and comments there
pub record HasNoTokenAt (bytes : List ℕ) (at from : ℕ) : Type 0 where
  pub place : from ≡ at + gap_len false (drop at bytes)
  pub fits : from < length bytes
  pub none : HasNoToken (drop from bytes)

abbrev pub IsEnd : List ℕ → ℕ → Type 0
IsEnd bytes at = drop (gap_len false (drop at bytes)) (drop at bytes) ≡ []

abbrev pub IsNextAt : List ℕ → ℕ → NextToken → Type 0
IsNextAt bytes at answers.End = IsEnd bytes at
IsNextAt bytes at (answers.Bad from) = HasNoTokenAt bytes at from
IsNextAt bytes at (answers.Token v) = StandsAt bytes at v
