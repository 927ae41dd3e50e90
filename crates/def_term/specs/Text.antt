-- The written text of a tree.
-- Depends on terms. It is that of `~w` of `io_lib`; where it differs, its line says (own).
use Rattle.std.specs.Prelude.{ℕ, ◌+◌, ◌-◌, ◌*◌, List, [], ◌∷◌, ◌++◌, Bool, true, false, ◌&&◌, ◌||◌, not, cond, nat_le, ◌==◌, codes, decimal, flat_map}
use Rattle.std.specs.Fmt.{signed_decimal}
use Rattle.std.specs.Str.{bytes_eq}
use Rattle.def_term.specs.Tree.{Tree, int, atom, pid, tuple, list, Trees, none, more}

-- a letter a to z
abbrev pub is_lower : ℕ → Bool
is_lower b = nat_le 97 b && nat_le b 122

-- a letter A to Z
abbrev pub is_upper : ℕ → Bool
is_upper b = nat_le 65 b && nat_le b 90

-- a digit 0 to 9
abbrev pub is_digit : ℕ → Bool
is_digit b = nat_le 48 b && nat_le b 57

-- the number that decimal digits spell after this number
abbrev pub number_after : ℕ → List ℕ → ℕ
number_after n [] = n
number_after n (d ∷ ds) = number_after (n * 10 + (d - 48)) ds

-- what may follow the first letter of a bare atom: letters, digits, `_` and `@`
abbrev pub is_name_byte : ℕ → Bool
is_name_byte b = is_lower b || is_upper b || is_digit b || (b == 95) || (b == 64)

-- each byte is one of them
abbrev pub are_name_bytes : List ℕ → Bool
are_name_bytes [] = true
are_name_bytes (b ∷ bs) = is_name_byte b && are_name_bytes bs

-- the name is one of these
abbrev pub is_among : List (List ℕ) → List ℕ → Bool
is_among [] s = false
is_among (w ∷ ws) s = bytes_eq s w || is_among ws s

-- the words that are no bare atoms ("Reserved Words" of the Erlang Reference Manual); `maybe` and `else` are none of them (own)
abbrev pub reserved_words : List (List ℕ)
reserved_words =
    codes "after" ∷ codes "and" ∷ codes "andalso" ∷ codes "band" ∷ codes "begin" ∷ codes "bnot" ∷ codes "bor" ∷ codes "bsl" ∷ codes "bsr" ∷ codes "bxor" ∷ codes "case" ∷ codes "catch" ∷ codes "cond" ∷ codes "div" ∷ codes "end"
    ∷ codes "fun" ∷ codes "if" ∷ codes "let" ∷ codes "not" ∷ codes "of" ∷ codes "or" ∷ codes "orelse" ∷ codes "receive" ∷ codes "rem" ∷ codes "try" ∷ codes "when" ∷ codes "xor" ∷ []

-- a letter, and then a run of name bytes
abbrev pub is_name : List ℕ → Bool
is_name [] = false
is_name (b ∷ bs) = is_lower b && are_name_bytes bs

-- an atom is written bare where it is a bare atom, and is neither `maybe` nor `else` (own)
unfoldable pub is_written_bare : List ℕ → Bool
is_written_bare s = is_name s && not (is_among (codes "maybe" ∷ codes "else" ∷ reserved_words) s)

-- a quote and a backslash have a backslash before them
abbrev pub escape : ℕ → List ℕ
escape b = cond ((b == 39) || (b == 92)) (92 ∷ b ∷ []) (b ∷ [])

-- any other atom is quoted
abbrev pub atom_text : List ℕ → List ℕ
atom_text s = cond (is_written_bare s) s (39 ∷ flat_map escape s ++ 39 ∷ [])

-- `<0.N.0>`
abbrev pub pid_text : ℕ → List ℕ
pid_text n = codes "<0." ++ decimal n ++ codes ".0>"

abbrev mutual
  -- without blanks; integers in decimal without leading zeros, strings as lists; one text for each term
  pub w : Tree → List ℕ
  w (int n) = signed_decimal n
  w (atom s) = atom_text s
  w (pid n) = pid_text n
  w (tuple ts) = 123 ∷ (comma_list ts ++ 125 ∷ [])
  w (list ts) = 91 ∷ (comma_list ts ++ 93 ∷ [])

  -- the texts with a comma between any two
  pub comma_list : Trees → List ℕ
  comma_list none = []
  comma_list (more t ts) = w t ++ each_after_comma ts

  -- each with a comma before it
  pub each_after_comma : Trees → List ℕ
  each_after_comma none = []
  each_after_comma (more t ts) = 44 ∷ (w t ++ each_after_comma ts)
