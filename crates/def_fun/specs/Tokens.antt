-- The tokens of a fun's text: which bytes are which token, and the list of a text's tokens with their offsets.
-- Depends on operators, on names, and on def_text's lists of tokens. The tokens are those of the Erlang Reference Manual ("Data Types", "Reserved Words", "Character Set
-- and Source File Encoding"); where one differs, its line says (own).
use Rattle.std.specs.Prelude.{◌≡◌, ℕ, ◌<◌, ◌≤◌, List, [], ◌∷◌, ◌++◌, length, Bool, true, false, not, ◌&&◌, ◌||◌, ◌⊎◌, if◌then◌else◌, nat_le, ◌==◌, codes, Option, Some, None}
use Prim.Native.String.{String}
use Rattle.std.specs.Option.{unwrap_or}
use Rattle.std.specs.Str.{bytes_eq}
use Rattle.def_term.specs.Names.{Name}
use Rattle.def_term.specs.Text.{is_digit, is_upper, is_name, is_name_byte, are_name_bytes}
use Rattle.def_text.specs.Tokens.{ends_form, stops, all_are, number, IsDigits, is_printable}
use Rattle.def_fun.specs.Spans.{SpanOf, SpansFrom}
use Rattle.def_fun.specs.Operators as op
use Rattle.def_fun.specs.Operators.{FunOperator, operator_name}

-- what the text of a fun consists of
pub data FunToken : Type 0 where
  open_paren close_paren open_bracket close_bracket open_brace close_brace : FunToken
  -- `,` `;` `|` `->` `=`
  comma semicolon bar arrow match : FunToken
  -- `fun`, `when`, `end`, and the full stop
  fun_word when_word end_word full_stop : FunToken
  operator : FunOperator → FunToken
  -- an integer or a character, by its value
  whole : ℕ → FunToken
  atom : Name → FunToken
  characters : List ℕ → FunToken
  variable : Name → FunToken
  -- what Erlang has and this profile hasn't, by its name
  left_out : Name → FunToken
  -- bytes that form no token
  bad : FunToken

-- ---- symbols and words

-- the token that a table has of some bytes
abbrev pub token_named : List (Name × FunToken) → Name → Option FunToken
token_named [] s = None
token_named (r ∷ rs) s = if bytes_eq s r.0 then Some r.1 else token_named rs s

-- an operator's row
abbrev pub operator_row : FunOperator → Name × FunToken
operator_row o = (operator_name o, operator o)

-- the row of what is left out
abbrev pub outside : String → Name × FunToken
outside s = (codes s, left_out (codes s))

-- the symbols
abbrev pub symbols : List (Name × FunToken)
symbols =
    (codes "(", open_paren) ∷ (codes ")", close_paren) ∷ (codes "[", open_bracket) ∷ (codes "]", close_bracket) ∷ (codes "{", open_brace) ∷ (codes "}", close_brace)
    ∷ (codes ",", comma) ∷ (codes ";", semicolon) ∷ (codes "|", bar) ∷ (codes "->", arrow) ∷ (codes "=", match)
    ∷ operator_row op.equal ∷ operator_row op.not_equal ∷ operator_row op.less_or_equal ∷ operator_row op.less ∷ operator_row op.greater_or_equal ∷ operator_row op.greater
    ∷ operator_row op.exactly_equal ∷ operator_row op.exactly_not_equal ∷ operator_row op.plus ∷ operator_row op.minus ∷ operator_row op.times
    ∷ outside "<-" ∷ outside "<=" ∷ outside "<<" ∷ outside ">>" ∷ outside "=>" ∷ outside ":=" ∷ outside "::" ∷ outside ":" ∷ outside "++" ∷ outside "--" ∷ outside "/" ∷ outside "||"
    ∷ outside "..." ∷ outside ".." ∷ outside "?=" ∷ outside "?" ∷ outside "!" ∷ outside "#" ∷ outside "~" ∷ []

-- the reserved words, with `maybe` and `else`, which no scripts reserve
abbrev pub fun_words : List (Name × FunToken)
fun_words =
    (codes "fun", fun_word) ∷ (codes "when", when_word) ∷ (codes "end", end_word)
    ∷ operator_row op.or_else ∷ operator_row op.and_also ∷ operator_row op.bit_or ∷ operator_row op.bit_xor ∷ operator_row op.one_of ∷ operator_row op.just_one_of
    ∷ operator_row op.divide ∷ operator_row op.remainder ∷ operator_row op.bit_and ∷ operator_row op.all_of ∷ operator_row op.bit_not ∷ operator_row op.negation
    ∷ outside "after" ∷ outside "begin" ∷ outside "bsl" ∷ outside "bsr" ∷ outside "case" ∷ outside "catch" ∷ outside "cond" ∷ outside "else" ∷ outside "if" ∷ outside "let" ∷ outside "maybe" ∷ outside "of" ∷ outside "receive" ∷ outside "try" ∷ []

-- a symbol of the table, and no longer one is there
pub record IsSymbol (u rest : List ℕ) (t : FunToken) : Type 0 where
  pub row : token_named symbols u ≡ Some t
  pub longest : (v more : List ℕ) (s : FunToken) → u ++ rest ≡ v ++ more → token_named symbols v ≡ Some s → length v ≤ length u

-- a letter a to z, then the whole run of letters, digits, `_` and `@`: a reserved word, or the atom of that name
pub record IsWordToken (u rest : List ℕ) (t : FunToken) : Type 0 where
  pub name : is_name u ≡ true
  pub over : stops is_name_byte rest ≡ true
  pub token : t ≡ unwrap_or (token_named fun_words u) (atom u)

-- a letter A to Z or `_`, then a run of letters, digits, `_` and `@`
abbrev pub is_variable_name : List ℕ → Bool
is_variable_name [] = false
is_variable_name (b ∷ bs) = (is_upper b || (b == 95)) && are_name_bytes bs

-- the whole run
pub record IsVariable (u rest : List ℕ) (t : FunToken) : Type 0 where
  pub name : is_variable_name u ≡ true
  pub over : stops is_name_byte rest ≡ true
  pub token : t ≡ variable u

-- ---- numbers

-- what makes digits a number that is left out, with so many bytes: `.` and a digit, `#`, or `_` and a digit
abbrev pub after_digits : List ℕ → Option (Name × ℕ)
after_digits [] = None
after_digits (b ∷ []) = if b == 35 then Some (codes "number", 1) else None
after_digits (b ∷ d ∷ bs) =
    if b == 35 then Some (codes "number", 1)
    else (if (b == 46) && is_digit d then Some (codes "float", 2)
    else (if (b == 95) && is_digit d then Some (codes "number", 2)
    else None))

-- the whole run of digits; leading zeros are allowed
pub record IsWhole (u rest : List ℕ) (t : FunToken) : Type 0 where
  pub digits : IsDigits u
  pub over : stops is_digit rest ≡ true
  pub alone : after_digits rest ≡ None
  pub token : t ≡ whole (number u)

-- the whole run of digits, and what makes them a number that is left out
pub record IsOtherNumber (u rest : List ℕ) (t : FunToken) : Type 0 where
  pub digits : List ℕ
  pub more : List ℕ
  pub text : u ≡ digits ++ more
  pub are : IsDigits digits
  pub over : stops is_digit (more ++ rest) ≡ true
  pub name : Name
  pub named : after_digits (more ++ rest) ≡ Some (name, length more)
  pub token : t ≡ left_out name

-- ---- characters and quoted texts

-- a character that is written as itself: from 32 to 126, but the quote and the backslash
abbrev pub is_plain_in : ℕ → ℕ → Bool
is_plain_in q c = is_printable c && not ((c == q) || (c == 92))

-- what may be after a backslash: characters 32 to 126 but `x`, `^` and 0 to 7 (own)
abbrev pub is_escape : ℕ → Bool
is_escape e = is_printable e && not ((e == 120) || (e == 94) || (nat_le 48 e && nat_le e 55))

-- its code ("Data Types", "Escape Sequences"): \b \d \e \f \n \r \s \t \v, and any other its own
abbrev pub escape_code : ℕ → ℕ
escape_code e =
    if e == 98 then 8 else if e == 100 then 127 else if e == 101 then 27 else if e == 102 then 12 else if e == 110 then 10
    else if e == 114 then 13 else if e == 115 then 32 else if e == 116 then 9 else if e == 118 then 11 else e

-- the bytes are one character, by itself or by an escape, with that code
abbrev pub IsCharacterOf : ℕ → List ℕ → ℕ → Type 0
IsCharacterOf q u c = ((u ≡ c ∷ []) × (is_plain_in q c ≡ true)) ⊎ ((e : ℕ) × (u ≡ 92 ∷ e ∷ []) × (is_escape e ≡ true) × (c ≡ escape_code e))

-- the bytes are these characters
abbrev pub AreCharactersOf : ℕ → List ℕ → List ℕ → Type 0
AreCharactersOf q u [] = u ≡ []
AreCharactersOf q u (c ∷ cs) = (front : List ℕ) × (rest : List ℕ) × (u ≡ front ++ rest) × IsCharacterOf q front c × AreCharactersOf q rest cs

-- characters between two quotes
pub record IsInQuotes (q : ℕ) (u s : List ℕ) : Type 0 where
  pub body : List ℕ
  pub text : u ≡ q ∷ (body ++ q ∷ [])
  pub are : AreCharactersOf q body s

-- `$` and a character, where the backslash alone is none; its value is the code
pub record IsCharacterToken (u rest : List ℕ) (t : FunToken) : Type 0 where
  pub body : List ℕ
  pub code : ℕ
  pub text : u ≡ 36 ∷ body
  pub one : IsCharacterOf 92 body code
  pub token : t ≡ whole code

-- an atom in single quotes; each code is from 32 to 126 (own)
pub record IsQuotedAtom (u rest : List ℕ) (t : FunToken) : Type 0 where
  pub name : List ℕ
  pub quoted : IsInQuotes 39 u name
  pub printable : all_are is_printable name ≡ true
  pub token : t ≡ atom name

-- a string in double quotes, without a quote right after it
pub record IsString (u rest : List ℕ) (t : FunToken) : Type 0 where
  pub codes_of : List ℕ
  pub quoted : IsInQuotes 34 u codes_of
  pub alone : stops (λ b. b == 34) rest ≡ true
  pub token : t ≡ characters codes_of

-- ---- tokens

-- a `.` with a blank, a comment or the end after it
pub record IsFullStop (u rest : List ℕ) (t : FunToken) : Type 0 where
  pub text : u ≡ 46 ∷ []
  pub over : ends_form rest ≡ true
  pub token : t ≡ full_stop

-- the kinds of tokens
pub data FunTokenKind : Type 0 where
  a_symbol a_word a_variable a_number another_number a_character a_quoted_atom a_string a_full_stop : FunTokenKind

-- the bytes u, with the rest after them, are this token of that kind
abbrev pub IsOfKind : FunTokenKind → List ℕ → List ℕ → FunToken → Type 0
IsOfKind a_symbol u rest t = IsSymbol u rest t
IsOfKind a_word u rest t = IsWordToken u rest t
IsOfKind a_variable u rest t = IsVariable u rest t
IsOfKind a_number u rest t = IsWhole u rest t
IsOfKind another_number u rest t = IsOtherNumber u rest t
IsOfKind a_character u rest t = IsCharacterToken u rest t
IsOfKind a_quoted_atom u rest t = IsQuotedAtom u rest t
IsOfKind a_string u rest t = IsString u rest t
IsOfKind a_full_stop u rest t = IsFullStop u rest t

-- a token of some kind, the longest at that place
abbrev pub IsFunToken : List ℕ → List ℕ → FunToken → Type 0
IsFunToken u rest t = (k : FunTokenKind) × IsOfKind k u rest t

-- no token is at the front of the bytes
abbrev pub HasNoFunToken : List ℕ → Type 0
HasNoFunToken bytes = (u rest : List ℕ) (t : FunToken) → bytes ≡ u ++ rest → IsFunToken u rest t → ⊥

-- all bytes to the end, where no token is at their front
pub record IsBad (u rest : List ℕ) (t : FunToken) : Type 0 where
  pub last : rest ≡ []
  pub some : 0 < length u
  pub none_there : HasNoFunToken u
  pub token : t ≡ bad

-- a token, or bytes that form none
abbrev pub FunStands : List ℕ → List ℕ → FunToken → Type 0
FunStands u rest t = IsFunToken u rest t ⊎ IsBad u rest t

-- a token with its span
abbrev pub FunSpan : Type 0
FunSpan = SpanOf FunToken

-- the tokens of the text, in order, with their offsets from 0
abbrev pub FunTokens : List ℕ → List FunSpan → Type 0
FunTokens bytes xs = SpansFrom FunToken FunStands 0 bytes xs
