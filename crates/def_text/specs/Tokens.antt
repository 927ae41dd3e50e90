-- The tokens of a text: which bytes are which token, and the list of a text's tokens with their offsets.
-- Depends on the classes of characters and the reserved words of written terms. The tokens are those of terms in the
-- Erlang Reference Manual ("Data Types", "Reserved Words"); where one differs, its line says (own).
use Rattle.std.specs.Prelude.{◌≡◌, ℕ, ℤ, pos, neg_ℤ, ◌+◌, ◌-◌, ◌*◌, ◌<◌, List, [], ◌∷◌, ◌++◌, length, drop, flat_map, Bool, true, false, not, ◌&&◌, ◌||◌, ◌⊎◌, if◌then◌else◌, nat_le, ◌==◌, codes}
use Rattle.def_term.specs.Text.{is_digit, number_after, is_name, is_name_byte, is_among, reserved_words}

-- what a text consists of: punctuation, full stop, integer, atom, string, pid
pub data Token : Type 0 where
  open_brace : Token
  close_brace : Token
  open_bracket : Token
  close_bracket : Token
  comma : Token
  stop : Token
  integer : ℤ → Token
  atom : List ℕ → Token
  characters : List ℕ → Token
  pid : ℕ → Token
  -- bytes that form no token
  bad : Token

-- blanks are space, tab, line feed and carriage return
abbrev pub is_blank : ℕ → Bool
is_blank b = (b == 32) || (b == 9) || (b == 10) || (b == 13)

-- how many bytes of blanks and comments are at the front, inside a comment or not.
-- A comment is `%` and all bytes up to a line feed or the end
abbrev pub gap_len : Bool → List ℕ → ℕ
gap_len inside [] = 0
gap_len true (b ∷ bs) = gap_len (not (b == 10)) bs + 1
gap_len false (b ∷ bs) = if b == 37 then gap_len true bs + 1 else (if is_blank b then gap_len false bs + 1 else 0)

-- each byte passes the test
abbrev pub all_are : (ℕ → Bool) → List ℕ → Bool
all_are p [] = true
all_are p (b ∷ bs) = p b && all_are p bs

-- the run ends here: no byte is left, or the next is another
abbrev pub stops : (ℕ → Bool) → List ℕ → Bool
stops p [] = true
stops p (b ∷ bs) = not (p b)

-- a full stop has a blank, a comment or the end after it
abbrev pub ends_form : List ℕ → Bool
ends_form [] = true
ends_form (b ∷ bs) = is_blank b || (b == 37)

-- the number that decimal digits spell; leading zeros are allowed
abbrev pub number : List ℕ → ℕ
number ds = number_after 0 ds

-- one or more digits
pub record IsDigits (ds : List ℕ) : Type 0 where
  pub some : 0 < length ds
  pub all : all_are is_digit ds ≡ true

-- no leading zero; 0 alone is allowed
abbrev pub has_no_leading_zero : List ℕ → Bool
has_no_leading_zero [] = true
has_no_leading_zero (d ∷ []) = true
has_no_leading_zero (d ∷ e ∷ ds) = not (d == 48)

-- characters 32 to 126
abbrev pub is_printable : ℕ → Bool
is_printable b = nat_le 32 b && nat_le b 126

-- the quote and a backslash have a backslash before them
abbrev pub escaped_in : ℕ → ℕ → List ℕ
escaped_in q b = if (b == q) || (b == 92) then 92 ∷ b ∷ [] else b ∷ []

-- the characters between two quotes
abbrev pub in_quotes : ℕ → List ℕ → List ℕ
in_quotes q s = q ∷ (flat_map (escaped_in q) s ++ q ∷ [])

-- a quoted atom or a string, by its quote: characters 32 to 126 (own); may be empty
pub record IsQuoted (q : ℕ) (u s : List ℕ) : Type 0 where
  pub text : u ≡ in_quotes q s
  pub printable : all_are is_printable s ≡ true

-- a letter a to z, then the whole run of letters, digits, `_` and `@`, and no reserved word; `maybe` and `else` are none (own)
pub record IsBare (u rest s : List ℕ) : Type 0 where
  pub text : u ≡ s
  pub name : is_name s ≡ true
  pub whole : stops is_name_byte rest ≡ true
  pub free : is_among reserved_words s ≡ false

-- `<0.N.0>`, N digits without leading zeros (own)
pub record IsPid (u ds : List ℕ) (n : ℕ) : Type 0 where
  pub text : u ≡ codes "<0." ++ ds ++ codes ".0>"
  pub digits : IsDigits ds
  pub plain : has_no_leading_zero ds ≡ true
  pub value : n ≡ number ds

-- an optional `-` and the whole run of digits; `-0` is 0
abbrev pub IsInteger : List ℕ → List ℕ → ℤ → Type 0
IsInteger u rest n =
    (stops is_digit rest ≡ true)
    × ((IsDigits u × (n ≡ pos (number u))) ⊎ ((ds : List ℕ) × (u ≡ 45 ∷ ds) × IsDigits ds × (n ≡ neg_ℤ (pos (number ds)))))

-- the bytes u, with the rest after them, are this token, the longest at that place
abbrev pub IsToken : List ℕ → List ℕ → Token → Type 0
IsToken u rest open_brace = u ≡ 123 ∷ []
IsToken u rest close_brace = u ≡ 125 ∷ []
IsToken u rest open_bracket = u ≡ 91 ∷ []
IsToken u rest close_bracket = u ≡ 93 ∷ []
IsToken u rest comma = u ≡ 44 ∷ []
IsToken u rest stop = (u ≡ 46 ∷ []) × (ends_form rest ≡ true)
IsToken u rest (integer n) = IsInteger u rest n
IsToken u rest (atom s) = IsBare u rest s ⊎ IsQuoted 39 u s
IsToken u rest (characters s) = IsQuoted 34 u s
IsToken u rest (pid n) = (ds : List ℕ) × IsPid u ds n
IsToken u rest bad = ⊥

-- no token is at the front of the bytes
abbrev pub HasNoToken : List ℕ → Type 0
HasNoToken bytes = (u rest : List ℕ) (t : Token) → bytes ≡ u ++ rest → IsToken u rest t → ⊥

-- a token, or all bytes to the end where no token is at their front
abbrev pub Stands : List ℕ → List ℕ → Token → Type 0
Stands u rest bad = (rest ≡ []) × (0 < length u) × HasNoToken u
Stands u rest t = IsToken u rest t

-- a token with its span: the offsets of its first byte and of the byte after it
pub record TokenSpan : Type 0 where
  pub token : Token
  pub from : ℕ
  pub to : ℕ

-- the first token after the blanks and comments, of bytes whose first is at that offset
pub record IsNextToken (at : ℕ) (bytes u rest : List ℕ) (x : TokenSpan) : Type 0 where
  pub split : drop (gap_len false bytes) bytes ≡ u ++ rest
  pub from : x.from ≡ at + gap_len false bytes
  pub to : x.to ≡ x.from + length u
  pub stands : Stands u rest x.token

-- these are the tokens of the bytes, the first of which is at that offset, with blanks and comments between them
abbrev pub TokensFrom : ℕ → List ℕ → List TokenSpan → Type 0
TokensFrom at bytes [] = drop (gap_len false bytes) bytes ≡ []
TokensFrom at bytes (x ∷ xs) = (u : List ℕ) × (rest : List ℕ) × IsNextToken at bytes u rest x × TokensFrom x.to rest xs

-- the tokens of the text, in order, with their offsets from 0
abbrev pub Tokens : List ℕ → List TokenSpan → Type 0
Tokens bytes xs = TokensFrom 0 bytes xs
