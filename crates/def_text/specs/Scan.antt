-- Which token is at the front of the bytes, and how long it is, by cases on the bytes from the left.
-- Depends on tokens (own). Lemmas say that it finds each token, and only tokens.
use Rattle.std.specs.Prelude.{◌≡◌, ℕ, ◌+◌, List, [], ◌∷◌, take, drop, Bool, true, false, not, ◌&&◌, ◌||◌, if◌then◌else◌, nat_le, nat_lt, ◌==◌, Option, Some, None}
use Rattle.def_term.specs.Text.{is_digit, is_lower, is_name_byte, is_among, reserved_words}
use Rattle.def_text.specs.Tokens.{ends_form, Token, open_brace, close_brace, open_bracket, close_bracket, comma, stop, integer, atom, characters, pid, IsBare, IsQuoted, IsToken}

-- the kinds of tokens: five of punctuation, full stop, integer, bare atom, quoted atom, string, pid
pub data TokenKind : Type 0 where
  left_brace : TokenKind
  right_brace : TokenKind
  left_bracket : TokenKind
  right_bracket : TokenKind
  separator : TokenKind
  full_stop : TokenKind
  numeral : TokenKind
  bare_atom : TokenKind
  quoted_atom : TokenKind
  string : TokenKind
  process_identifier : TokenKind

-- how many bytes at the front pass the test
abbrev pub run_len : (ℕ → Bool) → List ℕ → ℕ
run_len p [] = 0
run_len p (b ∷ bs) = if p b then run_len p bs + 1 else 0

-- n bytes after the opening quote, after a backslash or not: how many there are with the closing quote; None where none closes it, or a byte or escape isn't allowed
abbrev pub quoted_end : ℕ → Bool → ℕ → List ℕ → Option ℕ
quoted_end q escaped n [] = None
quoted_end q true n (b ∷ bs) = if (b == q) || (b == 92) then quoted_end q false (n + 1) bs else None
quoted_end q false n (b ∷ bs) =
    if b == q then Some (n + 1)
    else (if b == 92 then quoted_end q true (n + 1) bs
    else (if nat_le 32 b && nat_le b 126 then quoted_end q false (n + 1) bs
    else None))

-- the characters, without the backslashes: after one or not
abbrev pub unescape : Bool → List ℕ → List ℕ
unescape escaped [] = []
unescape true (b ∷ bs) = b ∷ unescape false bs
unescape false (b ∷ bs) = if b == 92 then unescape true bs else b ∷ unescape false bs

-- `.0>` is at the front
abbrev pub closes_pid : List ℕ → Bool
closes_pid (a ∷ b ∷ c ∷ bs) = (a == 46) && (b == 48) && (c == 62)
closes_pid _ = false

-- the first digit is 0
abbrev pub begins_zero : List ℕ → Bool
begins_zero [] = false
begins_zero (b ∷ bs) = b == 48

-- how many bytes after `<` a pid has, where these bytes come after `<0.`
abbrev pub pid_number_end : List ℕ → Option ℕ
pid_number_end bs =
    let n = run_len is_digit bs in
    if (n == 0) || (nat_lt 1 n && begins_zero bs) || not (closes_pid (drop n bs)) then None else Some (n + 5)

-- how many bytes after `<` a pid has
abbrev pub pid_end : List ℕ → Option ℕ
pid_end (a ∷ b ∷ bs) = if (a == 48) && (b == 46) then pid_number_end bs else None
pid_end _ = None

-- a token of that kind with so many bytes after its first
abbrev pub of_kind : TokenKind → Option ℕ → Option (TokenKind × ℕ)
of_kind k None = None
of_kind k (Some n) = Some (k, n + 1)

-- the kind and the length of the token at the front
abbrev pub token_at : List ℕ → Option (TokenKind × ℕ)
token_at [] = None
token_at (b ∷ bs) =
    if b == 123 then Some (left_brace, 1)
    else (if b == 125 then Some (right_brace, 1)
    else (if b == 91 then Some (left_bracket, 1)
    else (if b == 93 then Some (right_bracket, 1)
    else (if b == 44 then Some (separator, 1)
    else (if b == 46 then (if ends_form bs then Some (full_stop, 1) else None)
    else (if b == 45 then (if run_len is_digit bs == 0 then None else Some (numeral, run_len is_digit bs + 1))
    else (if is_digit b then Some (numeral, run_len is_digit bs + 1)
    else (if is_lower b then (if is_among reserved_words (take (run_len is_name_byte bs + 1) (b ∷ bs)) then None else Some (bare_atom, run_len is_name_byte bs + 1))
    else (if b == 39 then of_kind quoted_atom (quoted_end 39 false 0 bs)
    else (if b == 34 then of_kind string (quoted_end 34 false 0 bs)
    else (if b == 60 then of_kind process_identifier (pid_end bs)
    else None)))))))))))

-- the token that these bytes are is of that kind
abbrev pub IsTokenOf : TokenKind → List ℕ → List ℕ → Token → Type 0
IsTokenOf left_brace u rest t = t ≡ open_brace
IsTokenOf right_brace u rest t = t ≡ close_brace
IsTokenOf left_bracket u rest t = t ≡ open_bracket
IsTokenOf right_bracket u rest t = t ≡ close_bracket
IsTokenOf separator u rest t = t ≡ comma
IsTokenOf full_stop u rest t = t ≡ stop
IsTokenOf numeral u rest t = (n : _) × (t ≡ integer n)
IsTokenOf bare_atom u rest t = (s : List ℕ) × (t ≡ atom s) × IsBare u rest s
IsTokenOf quoted_atom u rest t = (s : List ℕ) × (t ≡ atom s) × IsQuoted 39 u s
IsTokenOf string u rest t = (s : List ℕ) × (t ≡ characters s)
IsTokenOf process_identifier u rest t = (n : ℕ) × (t ≡ pid n)

-- these bytes are some token of that kind
abbrev pub IsFound : TokenKind → List ℕ → List ℕ → Type 0
IsFound k u rest = (t : Token) × IsToken u rest t × IsTokenOf k u rest t
