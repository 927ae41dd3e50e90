-- Rows: texts and their tokens.
use Rattle.std.proofs.Common.{◌≡◌, ℕ, List, [], ◌∷◌, Bool, true, ◌&&◌, map, codes, refl}
use Rattle.def_term.specs.Names.{Name}
use Rattle.def_term.specs.Text.{reserved_words, is_among}
use Rattle.def_fun.specs.Operators as op
use Rattle.def_fun.specs.Tokens.{FunToken, FunSpan, open_paren, close_paren, bar, match, fun_word, full_stop, operator, whole, atom, characters, variable, left_out, bad, fun_words}
use Rattle.def_fun.specs.Scan.{fun_spans, fun_span}

-- the tokens of a text, without their spans
abbrev pub tokens_in : List ℕ → List FunToken
tokens_in bytes = map (λ (x : FunSpan). x.token) (fun_spans bytes)

-- `fun(X) % a` and a line feed: tokens with their spans
pub spans_of_fun : fun_spans (codes "fun(X) % a") ≡ fun_span fun_word 0 3 ∷ fun_span open_paren 3 4 ∷ fun_span (variable (codes "X")) 4 5 ∷ fun_span close_paren 5 6 ∷ []
spans_of_fun = refl

-- the longest symbol counts
pub less_than_minus : tokens_in (codes "X<-1") ≡ variable (codes "X") ∷ left_out (codes "<-") ∷ whole 1 ∷ []
less_than_minus = refl

pub at_most_minus : tokens_in (codes "X=<-1") ≡ variable (codes "X") ∷ operator op.less_or_equal ∷ operator op.minus ∷ whole 1 ∷ []
at_most_minus = refl

pub equals_minus : tokens_in (codes "X==-1") ≡ variable (codes "X") ∷ operator op.equal ∷ operator op.minus ∷ whole 1 ∷ []
equals_minus = refl

pub exactly : tokens_in (codes "=:= =/= => = >=") ≡ operator op.exactly_equal ∷ operator op.exactly_not_equal ∷ left_out (codes "=>") ∷ match ∷ operator op.greater_or_equal ∷ []
exactly = refl

pub colons : tokens_in (codes "a:b := :: |") ≡ atom (codes "a") ∷ left_out (codes ":") ∷ atom (codes "b") ∷ left_out (codes ":=") ∷ left_out (codes "::") ∷ bar ∷ []
colons = refl

-- a pid is no token
pub no_pid : tokens_in (codes "<0.1.0>") ≡ operator op.less ∷ left_out (codes "float") ∷ bad ∷ []
no_pid = refl

-- numbers
pub numbers : tokens_in (codes "007 1.5 16#ff 1_000 12_a 1. ") ≡ whole 7 ∷ left_out (codes "float") ∷ left_out (codes "number") ∷ atom (codes "ff") ∷ left_out (codes "number") ∷ whole 0 ∷ whole 12 ∷ variable (codes "_a") ∷ whole 1 ∷ full_stop ∷ []
numbers = refl

-- characters: `$a`, `$ `, `$\n`, `$\\`, `$'`
pub characters_by_code : tokens_in (codes "$a$ $\\n$\\\\$'") ≡ whole 97 ∷ whole 32 ∷ whole 10 ∷ whole 92 ∷ whole 39 ∷ []
characters_by_code = refl

-- escapes that are left out
pub no_hexadecimal : tokens_in (codes "$\\x41") ≡ bad ∷ []
no_hexadecimal = refl

pub no_octal : tokens_in (codes "\"\\101\"") ≡ bad ∷ []
no_octal = refl

-- quoted atoms and strings
pub quoted : tokens_in (codes "'a b' '\\'' 'fun' \"\\\"\\\\a\"") ≡ atom (codes "a b") ∷ atom (codes "'") ∷ atom (codes "fun") ∷ characters (codes "\"\\a") ∷ []
quoted = refl

-- a string may have a line feed by an escape, and an atom may not (own)
pub feed_in_string : tokens_in (codes "\"\\n\"") ≡ characters (10 ∷ []) ∷ []
feed_in_string = refl

pub feed_in_atom : tokens_in (codes "'\\n'") ≡ bad ∷ []
feed_in_atom = refl

-- a string with a quote right after it is none
pub strings_together : tokens_in (codes "\"a\"\"b\"") ≡ bad ∷ []
strings_together = refl

pub strings_apart : tokens_in (codes "\"a\" \"b\"") ≡ characters (codes "a") ∷ characters (codes "b") ∷ []
strings_apart = refl

-- an open quote
pub open_quote : tokens_in (codes "a 'b") ≡ atom (codes "a") ∷ bad ∷ []
open_quote = refl

-- the whole run of name bytes
pub whole_runs : tokens_in (codes "end1 ends _ X@1 @") ≡ atom (codes "end1") ∷ atom (codes "ends") ∷ variable (codes "_") ∷ variable (codes "X@1") ∷ bad ∷ []
whole_runs = refl

pub operators_by_words : tokens_in (codes "bnot not maybe bsl") ≡ operator op.bit_not ∷ operator op.negation ∷ left_out (codes "maybe") ∷ left_out (codes "bsl") ∷ []
operators_by_words = refl

-- a `.` that is no full stop
pub no_stop : tokens_in (codes "a.b") ≡ atom (codes "a") ∷ bad ∷ []
no_stop = refl

pub dots : tokens_in (codes "... .. ?= ? ||") ≡ left_out (codes "...") ∷ left_out (codes "..") ∷ left_out (codes "?=") ∷ left_out (codes "?") ∷ left_out (codes "||") ∷ []
dots = refl

-- the words of the table are the reserved words, with `maybe` and `else`
abbrev pub all_among : List Name → List Name → Bool
all_among [] ws = true
all_among (n ∷ ns) ws = is_among ws n && all_among ns ws

abbrev pub reserved_in_funs : List Name
reserved_in_funs = codes "maybe" ∷ codes "else" ∷ reserved_words

pub words_are_reserved : all_among (map (λ (r : Name × FunToken). r.0) fun_words) reserved_in_funs ≡ true
words_are_reserved = refl

pub reserved_are_words : all_among reserved_in_funs (map (λ (r : Name × FunToken). r.0) fun_words) ≡ true
reserved_are_words = refl
