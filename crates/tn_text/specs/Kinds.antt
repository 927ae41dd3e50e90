-- The kinds of tokens, in the code and in the definition.
use Rattle.std.specs.Prelude.{ℕ, ◌+◌, ◌≤◌, List, [], ◌∷◌, length, take, drop, false, if◌then◌else◌, ◌==◌, codes, Option, Some, None}
use Rattle.def_term.specs.Text.{is_digit, is_lower, is_name_byte, is_among, reserved_words}
use Rattle.def_text.specs.Tokens.{ends_form}
use Rattle.def_text.specs.Scan.{IsFound, run_len, quoted_end, pid_end, of_kind, TokenKind, left_brace, right_brace, left_bracket, right_bracket, separator, full_stop, numeral, bare_atom, quoted_atom, string, process_identifier}
use Rattle.tn_text.specs.declared.scan.Kind.{Kind}
use Rattle.tn_text.specs.declared.scan.Kind.TheVariants.{OpenBrace, CloseBrace, OpenBracket, CloseBracket, Comma, Stop, Integer, Bare, Quoted, Characters, Pid}

abbrev pub kind_of : Kind → TokenKind
kind_of OpenBrace = left_brace
kind_of CloseBrace = right_brace
kind_of OpenBracket = left_bracket
kind_of CloseBracket = right_bracket
kind_of Comma = separator
kind_of Stop = full_stop
kind_of Integer = numeral
kind_of Bare = bare_atom
kind_of Quoted = quoted_atom
kind_of Characters = string
kind_of Pid = process_identifier

-- a kind and a length
abbrev pub found_of : Option (Kind × ℕ) → Option (TokenKind × ℕ)
found_of None = None
found_of (Some p) = Some (kind_of p.0, p.1)

-- the token at the front is of this kind and of this length
abbrev pub StandsAtFront : List ℕ → Kind × ℕ → Type 0
StandsAtFront bytes p = (p.1 ≤ length bytes) × IsFound (kind_of p.0) (take p.1 bytes) (drop p.1 bytes)

-- the token at the front, where that begins with a quote or is a pid
abbrev pub enclosed_at : List ℕ → Option (TokenKind × ℕ)
enclosed_at [] = None
enclosed_at (b ∷ bs) =
    if b == 39 then of_kind quoted_atom (quoted_end 39 false 0 bs)
    else (if b == 34 then of_kind string (quoted_end 34 false 0 bs)
    else (if b == 60 then of_kind process_identifier (pid_end bs)
    else None))

-- the same, where it is no bracket and no comma
abbrev pub longer_at : List ℕ → Option (TokenKind × ℕ)
longer_at [] = None
longer_at (b ∷ bs) =
    if b == 46 then (if ends_form bs then Some (full_stop, 1) else None)
    else (if b == 45 then (if run_len is_digit bs == 0 then None else Some (numeral, run_len is_digit bs + 1))
    else (if is_digit b then Some (numeral, run_len is_digit bs + 1)
    else (if is_lower b then (if is_among reserved_words (take (run_len is_name_byte bs + 1) (b ∷ bs)) then None else Some (bare_atom, run_len is_name_byte bs + 1))
    else enclosed_at (b ∷ bs))))

-- the reserved words of three letters
abbrev pub reserved_of_three : List (List ℕ)
reserved_of_three =
    codes "and" ∷ codes "bor" ∷ codes "bsl" ∷ codes "bsr" ∷ codes "div" ∷ codes "end"
    ∷ codes "fun" ∷ codes "let" ∷ codes "not" ∷ codes "rem" ∷ codes "try" ∷ codes "xor" ∷ []

-- the reserved words of four letters
abbrev pub reserved_of_four : List (List ℕ)
reserved_of_four = codes "band" ∷ codes "bnot" ∷ codes "bxor" ∷ codes "case" ∷ codes "cond" ∷ codes "when" ∷ []
