-- How one token is found.
use Rattle.std.specs.Prelude.{ℕ, List, [], ◌∷◌, length, take, drop, false, ◌&&◌, if◌then◌else◌, ◌==◌, codes, Option, Some, None}
use Rattle.def_term.specs.Names.{Name}
use Rattle.def_text.specs.Tokens.{ends_form}
use Rattle.def_fun.specs.Tokens.{FunToken, full_stop, token_named, symbols, fun_words, after_digits}
use Rattle.def_fun.specs.Scan.{in_quotes_at, number_token, quoted_atom, string_token, character_at, symbol_at}
use Rattle.tn_fun.specs.declared.scan.NumberEnd.{NumberEnd}
use Rattle.tn_fun.specs.declared.scan.NumberEnd.TheVariants.{Fraction, Base, Separator}

-- what is left out, and how many bytes make the digits before them that
abbrev pub number_end_seen : NumberEnd → Name × ℕ
number_end_seen Fraction = (codes "float", 2)
number_end_seen Base = (codes "number", 1)
number_end_seen Separator = (codes "number", 2)

-- the number at the front, of which so many bytes are digits
abbrev pub number_of_digits : ℕ → List ℕ → Option (FunToken × ℕ)
number_of_digits n bytes = number_token bytes n (after_digits (drop n bytes))

-- the token at the front, where that begins with neither a letter nor a digit
abbrev pub other_at : List ℕ → Option (FunToken × ℕ)
other_at [] = None
other_at (b ∷ bs) =
    if b == 36 then character_at bs
    else (if b == 39 then quoted_atom (in_quotes_at 39 false bs)
    else (if b == 34 then string_token bs (in_quotes_at 34 false bs)
    else (if (b == 46) && ends_form bs then Some (full_stop, 1)
    else symbol_at (b ∷ bs))))

-- the symbol of some bytes
unfoldable pub symbol_named : Name → Option FunToken
symbol_named u = token_named symbols u

-- the reserved word of some bytes
unfoldable pub word_named : Name → Option FunToken
word_named u = token_named fun_words u

-- a token of so many bytes
abbrev pub with_length : ℕ → Option FunToken → Option (FunToken × ℕ)
with_length n None = None
with_length n (Some t) = Some (t, n)

-- the symbol that the first bytes are, at most so many
abbrev pub symbol_of_first : ℕ → List ℕ → Option (FunToken × ℕ)
symbol_of_first n bytes = with_length (length (take n bytes)) (symbol_named (take n bytes))
