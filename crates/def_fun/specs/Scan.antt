-- Which token of a fun is at the front of the bytes, and how long it is, by cases on the bytes from the left.
-- Depends on tokens (own). Lemmas say that it finds each token, and only tokens.
use Rattle.std.specs.Prelude.{ℕ, zero, suc, ◌+◌, List, [], ◌∷◌, length, take, drop, Bool, true, false, ◌&&◌, ◌||◌, if◌then◌else◌, ◌==◌, Option, Some, None}
use Rattle.std.specs.Option.{unwrap_or}
use Rattle.def_term.specs.Names.{Name}
use Rattle.def_term.specs.Text.{is_digit, is_lower, is_upper, is_name_byte}
use Rattle.def_text.specs.Tokens.{gap_len, ends_form, stops, all_are, number, is_printable}
use Rattle.def_text.specs.Scan.{run_len}
use Rattle.def_fun.specs.Tokens.{FunToken, FunSpan, bad, full_stop, whole, atom, characters, variable, left_out, token_named, symbols, fun_words, after_digits, is_plain_in, is_escape, escape_code}

-- the token that is found, with its length, or else another
abbrev pub or_found : Option FunToken → ℕ → Option (FunToken × ℕ) → Option (FunToken × ℕ)
or_found None n o = o
or_found (Some t) n o = Some (t, n)

-- the token of the first so many bytes, where they are a symbol, and else what is found
abbrev pub symbol_or : ℕ → List ℕ → Option (FunToken × ℕ) → Option (FunToken × ℕ)
symbol_or n bs o = or_found (token_named symbols (take n bs)) (length (take n bs)) o

-- the longest symbol at the front; none has more than three bytes
abbrev pub symbol_at : List ℕ → Option (FunToken × ℕ)
symbol_at bs = symbol_or 3 bs (symbol_or 2 bs (symbol_or 1 bs None))

-- the token of a run of name bytes
abbrev pub word_token : List ℕ → FunToken
word_token u = unwrap_or (token_named fun_words u) (atom u)

-- digits, and what makes them a number that is left out
abbrev pub number_token : List ℕ → ℕ → Option (Name × ℕ) → Option (FunToken × ℕ)
number_token bs n None = Some (whole (number (take n bs)), n)
number_token bs n (Some m) = Some (left_out m.0, n + m.1)

-- one more character
abbrev pub with_character : ℕ → ℕ → Option (List ℕ × ℕ) → Option (List ℕ × ℕ)
with_character c n None = None
with_character c n (Some r) = Some (c ∷ r.0, r.1 + n)

-- the codes up to the closing quote, and how many bytes they have with it; after a backslash or not
abbrev pub in_quotes_at : ℕ → Bool → List ℕ → Option (List ℕ × ℕ)
in_quotes_at q escaped [] = None
in_quotes_at q true (e ∷ bs) = if is_escape e then with_character (escape_code e) 2 (in_quotes_at q false bs) else None
in_quotes_at q false (b ∷ bs) =
    if b == q then Some ([], 1)
    else (if b == 92 then in_quotes_at q true bs
    else (if is_plain_in q b then with_character b 1 (in_quotes_at q false bs)
    else None))

-- an atom of these codes
abbrev pub quoted_atom : Option (List ℕ × ℕ) → Option (FunToken × ℕ)
quoted_atom None = None
quoted_atom (Some r) = if all_are is_printable r.0 then Some (atom r.0, r.1 + 1) else None

-- a string of these codes, in bytes of which the first is its quote
abbrev pub string_token : List ℕ → Option (List ℕ × ℕ) → Option (FunToken × ℕ)
string_token bs None = None
string_token bs (Some r) = if stops (λ b. b == 34) (drop r.1 bs) then Some (characters r.0, r.1 + 1) else None

-- the character after `$`
abbrev pub character_at : List ℕ → Option (FunToken × ℕ)
character_at [] = None
character_at (c ∷ []) = if is_plain_in 92 c then Some (whole c, 2) else None
character_at (c ∷ e ∷ bs) = if is_plain_in 92 c then Some (whole c, 2) else (if (c == 92) && is_escape e then Some (whole (escape_code e), 3) else None)

-- the token at the front, and its length
abbrev pub fun_token_at : List ℕ → Option (FunToken × ℕ)
fun_token_at [] = None
fun_token_at (b ∷ bs) =
    if is_lower b then Some (word_token (take (run_len is_name_byte bs + 1) (b ∷ bs)), run_len is_name_byte bs + 1)
    else (if is_upper b || (b == 95) then Some (variable (take (run_len is_name_byte bs + 1) (b ∷ bs)), run_len is_name_byte bs + 1)
    else (if is_digit b then number_token (b ∷ bs) (run_len is_digit bs + 1) (after_digits (drop (run_len is_digit bs + 1) (b ∷ bs)))
    else (if b == 36 then character_at bs
    else (if b == 39 then quoted_atom (in_quotes_at 39 false bs)
    else (if b == 34 then string_token bs (in_quotes_at 34 false bs)
    else (if (b == 46) && ends_form bs then Some (full_stop, 1)
    else symbol_at (b ∷ bs)))))))

-- ---- all tokens

-- the token at the front, and its length; all bytes where they form none
abbrev pub front_token : List ℕ → FunToken × ℕ
front_token bytes = unwrap_or (fun_token_at bytes) (bad, length bytes)

-- a token with its span
abbrev pub fun_span : FunToken → ℕ → ℕ → FunSpan
fun_span t from to = record { token = t; from = from; to = to }

-- the token at the front of these bytes, the first of which is at that offset, and those after it
abbrev pub with_front : ℕ → List ℕ → (ℕ → List ℕ → List FunSpan) → List FunSpan
with_front from [] go = []
with_front from (b ∷ bs) go =
    let n = (front_token (b ∷ bs)).1 in
    fun_span (front_token (b ∷ bs)).0 from (from + n) ∷ go (from + n) (drop n (b ∷ bs))

-- so many tokens at most of bytes whose first is at that offset
abbrev pub spans_within : ℕ → ℕ → List ℕ → List FunSpan
spans_within zero at bytes = []
spans_within (suc n) at bytes = with_front (at + gap_len false bytes) (drop (gap_len false bytes) bytes) (λ next rest. spans_within n next rest)

-- the tokens of a text
abbrev pub fun_spans : List ℕ → List FunSpan
fun_spans bytes = spans_within (length bytes + 1) 0 bytes
