-- The tokens of printed texts, one after the other.
use Rattle.std.proofs.Common.{◌≡◌, ℕ, suc, ◌+◌, ◌<◌, ◌≤◌, ◌^◌, ◌==◌, nat_le, List, [], ◌∷◌, ◌++◌, length, drop, Bool, true, false, not, ◌&&◌, ◌||◌, cond, Option, Some, None, codes, decimal, refl, ap, sym, ◌∙◌, arith, inl, inr}
use Rattle.std.specs.Prelude.{flat_map}
use Rattle.std.specs.Option.{unwrap_or}
use Rattle.std.proofs.lemmas.Bool.{and_parts, and_from, and_left, or_cases, cond_both, cond-true, cond-false, eqb-true, or_right, leb-true, both_ways, not-true, not_from_false}
use Rattle.std.proofs.lemmas.Bool.Decides.{nat_tests}
use Rattle.def_term.specs.Names.{Name}
use Rattle.def_term.specs.Text.{is_digit, is_lower, is_upper, is_name, is_name_byte, is_among, reserved_words, is_written_bare, escape, atom_text}
use Rattle.def_text.specs.Tokens.{is_blank, gap_len, all_are, stops, is_printable}
use Rattle.def_fun.specs.Operators as op
use Rattle.def_fun.specs.Operators.{FunOperator, operator_name}
use Rattle.def_fun.specs.Spans.{SpansFrom}
use Rattle.def_fun.specs.Tokens as token
use Rattle.def_fun.specs.Tokens.{FunToken, token_named, symbols, fun_words, IsSymbol, IsWordToken, is_variable_name, IsVariable, after_digits, IsWhole, is_plain_in, is_escape, escape_code, IsCharacterOf, AreCharactersOf, IsInQuotes, IsQuotedAtom, IsString, a_symbol, a_word, a_variable, a_number, a_quoted_atom, a_string, IsFunToken, FunStands, FunSpan}
use Rattle.def_fun.specs.Scan.{fun_span}
use Rattle.def_fun.specs.FunTexts.{string_character, string_text}
use Rattle.def_fun.proofs.Symbols.{named_passes}
use Rattle.def_fun_printing.proofs.NumberAtoms.{number_digits}

-- ---- what comes after a token

-- what may come after an expression: it goes on with no token
pub record Follows (rest : List ℕ) : Type 0 where
  pub name : stops is_name_byte rest ≡ true
  pub digit : stops is_digit rest ≡ true
  pub number : after_digits rest ≡ None
  pub quote : stops (λ b. b == 34) rest ≡ true

abbrev is_follow : ℕ → Bool
is_follow c = not (is_name_byte c) && (not (is_digit c) && (not (c == 35) && (not (c == 46) && (not (c == 95) && not (c == 34)))))

no_number : (c : ℕ) (more : List ℕ) → (c == 35) ≡ false → (c == 46) ≡ false → (c == 95) ≡ false → after_digits (c ∷ more) ≡ None
no_number c [] h k l = cond-false (c == 35) _ _ h
no_number c (d ∷ ds) h k l = cond-false (c == 35) _ _ h ∙ cond-false ((c == 46) && is_digit d) _ _ (and_left (c == 46) (is_digit d) k) ∙ cond-false ((c == 95) && is_digit d) _ _ (and_left (c == 95) (is_digit d) l)

pub follows_by : (c : ℕ) (more : List ℕ) → is_follow c ≡ true → Follows (c ∷ more)
follows_by c more h =
    let a = and_parts (not (is_name_byte c)) _ h in
    let b = and_parts (not (is_digit c)) _ a.1 in
    let d = and_parts (not (c == 35)) _ b.1 in
    let e = and_parts (not (c == 46)) _ d.1 in
    let f = and_parts (not (c == 95)) (not (c == 34)) e.1 in
    record { name = a.0; digit = b.0; number = no_number c more (not-true (c == 35) d.0) (not-true (c == 46) e.0) (not-true (c == 95) f.0); quote = f.1 }

-- ---- spans

-- a token in front of some bytes
pub record IsFront (u rest : List ℕ) (t : FunToken) : Type 0 where
  pub gap : gap_len false (u ++ rest) ≡ 0
  pub is : IsFunToken u rest t

pub one_span : (at to : ℕ) (u rest : List ℕ) (t : FunToken) (ys : List FunSpan) → IsFront u rest t → to ≡ at + length u → SpansFrom FunToken FunStands to rest ys → SpansFrom FunToken FunStands at (u ++ rest) (fun_span t at to ∷ ys)
one_span at to u rest t ys h e later =
    let gap = h.gap in
    (u, rest, record { split = ap (λ n. drop n (u ++ rest)) gap; from = omega (arith, gap); to = e; stands = inl h.is }, later)

gap_more : (c : ℕ) (bytes : List ℕ) → (c == 37) ≡ false → is_blank c ≡ true → gap_len false (c ∷ bytes) ≡ suc (gap_len false bytes)
gap_more c bytes other blank = cond-false (c == 37) _ _ other ∙ cond-true (is_blank c) (gap_len false bytes + 1) 0 blank ∙ (let e : gap_len false bytes + 1 ≡ suc (gap_len false bytes) = omega arith in e)

-- a blank before
pub blank_before : (c at : ℕ) (bytes : List ℕ) (xs : List FunSpan) → (c == 37) ≡ false → is_blank c ≡ true → SpansFrom FunToken FunStands (at + 1) bytes xs → SpansFrom FunToken FunStands at (c ∷ bytes) xs
blank_before c at bytes [] other blank h = ap (λ n. drop n (c ∷ bytes)) (gap_more c bytes other blank) ∙ h
blank_before c at bytes (x ∷ xs) other blank h =
    let gap = gap_more c bytes other blank in
    let n = h.2 in
    let from = n.from in
    (h.0, h.1, record { split = ap (λ k. drop k (c ∷ bytes)) gap ∙ n.split; from = omega (arith, gap, from); to = n.to; stands = n.stands }, h.3)

-- ---- symbols

-- a symbol that none goes on with
abbrev is_lone : ℕ → Bool
is_lone b = (b == 40) || (b == 41) || (b == 91) || (b == 93) || (b == 123) || (b == 125) || (b == 44) || (b == 59)

abbrev is_lone_text : List ℕ → Bool
is_lone_text [] = true
is_lone_text (b ∷ bs) = cond (is_lone b) (nat_le (length bs) 0) true

lone_length : (c : ℕ) (rest v more : List ℕ) → is_lone c ≡ true → c ∷ rest ≡ v ++ more → is_lone_text v ≡ true → length v ≤ 1
lone_length c rest [] more lone e h = omega arith
lone_length c rest (b ∷ bs) more lone e h =
    let same : c ≡ b = cc in
    let short = leb-true (length bs) 0 (sym (cond-true (is_lone b) (nat_le (length bs) 0) true (sym (ap is_lone same) ∙ lone)) ∙ h) in
    omega (arith, short)

lone_symbol : (c : ℕ) (rest : List ℕ) (t : FunToken) → is_lone c ≡ true → token_named symbols (c ∷ []) ≡ Some t → IsSymbol (c ∷ []) rest t
lone_symbol c rest t lone row = record { row = row; longest = λ v more s e named. lone_length c rest v more lone e (named_passes is_lone_text symbols v s refl named) }

-- bytes that no symbol has
abbrev is_stop : ℕ → Bool
is_stop b = (b == 32) || (b == 10) || (b == 34) || is_digit b

abbrev has_no_stop : List ℕ → Bool
has_no_stop v = all_are (λ b. not (is_stop b)) v

stop_length : (u : List ℕ) (c : ℕ) (rest v more : List ℕ) → is_stop c ≡ true → u ++ c ∷ rest ≡ v ++ more → has_no_stop v ≡ true → length v ≤ length u
stop_length u c rest [] more stop e h = omega arith
stop_length [] c rest (b ∷ bs) more stop e h =
    let same : c ≡ b = cc in
    absurd (both_ways (is_stop b) (not-true (is_stop b) (and_parts (not (is_stop b)) (has_no_stop bs) h).0) (sym (ap is_stop same) ∙ stop))
stop_length (a ∷ u) c rest (b ∷ bs) more stop e h =
    let tails : u ++ c ∷ rest ≡ bs ++ more = cc in
    let less = stop_length u c rest bs more stop tails (and_parts (not (is_stop b)) (has_no_stop bs) h).1 in
    omega (arith, less)

stop_symbol : (u : List ℕ) (c : ℕ) (rest : List ℕ) (t : FunToken) → is_stop c ≡ true → token_named symbols u ≡ Some t → IsSymbol u (c ∷ rest) t
stop_symbol u c rest t stop row = record { row = row; longest = λ v more s e named. stop_length u c rest v more stop e (named_passes has_no_stop symbols v s refl named) }

pub open_paren_front : (rest : List ℕ) → IsFront (40 ∷ []) rest token.open_paren
open_paren_front rest = record { gap = refl; is = (a_symbol, lone_symbol 40 rest token.open_paren refl refl) }

pub close_paren_front : (rest : List ℕ) → IsFront (41 ∷ []) rest token.close_paren
close_paren_front rest = record { gap = refl; is = (a_symbol, lone_symbol 41 rest token.close_paren refl refl) }

pub open_bracket_front : (rest : List ℕ) → IsFront (91 ∷ []) rest token.open_bracket
open_bracket_front rest = record { gap = refl; is = (a_symbol, lone_symbol 91 rest token.open_bracket refl refl) }

pub close_bracket_front : (rest : List ℕ) → IsFront (93 ∷ []) rest token.close_bracket
close_bracket_front rest = record { gap = refl; is = (a_symbol, lone_symbol 93 rest token.close_bracket refl refl) }

pub open_brace_front : (rest : List ℕ) → IsFront (123 ∷ []) rest token.open_brace
open_brace_front rest = record { gap = refl; is = (a_symbol, lone_symbol 123 rest token.open_brace refl refl) }

pub close_brace_front : (rest : List ℕ) → IsFront (125 ∷ []) rest token.close_brace
close_brace_front rest = record { gap = refl; is = (a_symbol, lone_symbol 125 rest token.close_brace refl refl) }

pub comma_front : (rest : List ℕ) → IsFront (44 ∷ []) rest token.comma
comma_front rest = record { gap = refl; is = (a_symbol, lone_symbol 44 rest token.comma refl refl) }

pub semicolon_front : (rest : List ℕ) → IsFront (59 ∷ []) rest token.semicolon
semicolon_front rest = record { gap = refl; is = (a_symbol, lone_symbol 59 rest token.semicolon refl refl) }

-- a bar before a string
pub bar_front : (rest : List ℕ) → IsFront (124 ∷ []) (34 ∷ rest) token.bar
bar_front rest = record { gap = refl; is = (a_symbol, stop_symbol (124 ∷ []) 34 rest token.bar refl refl) }

pub arrow_front : (rest : List ℕ) → IsFront (45 ∷ 62 ∷ []) (32 ∷ rest) token.arrow
arrow_front rest = record { gap = refl; is = (a_symbol, stop_symbol (45 ∷ 62 ∷ []) 32 rest token.arrow refl refl) }

stop_digit : (d : ℕ) → is_digit d ≡ true → is_stop d ≡ true
stop_digit d h = or_right ((d == 32) || (d == 10) || (d == 34)) (is_digit d) h

-- `-` before a digit
pub minus_front : (d : ℕ) (rest : List ℕ) → is_digit d ≡ true → IsFront (45 ∷ []) (d ∷ rest) (token.operator op.minus)
minus_front d rest h = record { gap = refl; is = (a_symbol, stop_symbol (45 ∷ []) d rest (token.operator op.minus) (stop_digit d h) refl) }

-- ---- words

word_front : (u rest : List ℕ) (t : FunToken) → gap_len false (u ++ rest) ≡ 0 → is_name u ≡ true → stops is_name_byte rest ≡ true → t ≡ unwrap_or (token_named fun_words u) (token.atom u) → IsFront u rest t
word_front u rest t gap name over is = record { gap = gap; is = (a_word, record { name = name; over = over; token = is }) }

pub fun_front : (rest : List ℕ) → IsFront (codes "fun") (40 ∷ rest) token.fun_word
fun_front rest = word_front (codes "fun") (40 ∷ rest) token.fun_word refl refl refl refl

pub when_front : (rest : List ℕ) → IsFront (codes "when") (32 ∷ rest) token.when_word
when_front rest = word_front (codes "when") (32 ∷ rest) token.when_word refl refl refl refl

pub end_front : IsFront (codes "end") [] token.end_word
end_front = word_front (codes "end") [] token.end_word refl refl refl refl

symbol_front : (o : FunOperator) (rest : List ℕ) → gap_len false (operator_name o ++ 32 ∷ rest) ≡ 0 → token_named symbols (operator_name o) ≡ Some (token.operator o) → IsFront (operator_name o) (32 ∷ rest) (token.operator o)
symbol_front o rest gap row = record { gap = gap; is = (a_symbol, stop_symbol (operator_name o) 32 rest (token.operator o) refl row) }

name_front : (o : FunOperator) (rest : List ℕ) → gap_len false (operator_name o ++ 32 ∷ rest) ≡ 0 → is_name (operator_name o) ≡ true → token.operator o ≡ unwrap_or (token_named fun_words (operator_name o)) (token.atom (operator_name o)) → IsFront (operator_name o) (32 ∷ rest) (token.operator o)
name_front o rest gap name is = word_front (operator_name o) (32 ∷ rest) (token.operator o) gap name refl is

-- an operator before a blank
pub operator_front : (o : FunOperator) (rest : List ℕ) → IsFront (operator_name o) (32 ∷ rest) (token.operator o)
operator_front op.or_else rest = name_front op.or_else rest refl refl refl
operator_front op.and_also rest = name_front op.and_also rest refl refl refl
operator_front op.equal rest = symbol_front op.equal rest refl refl
operator_front op.not_equal rest = symbol_front op.not_equal rest refl refl
operator_front op.less_or_equal rest = symbol_front op.less_or_equal rest refl refl
operator_front op.less rest = symbol_front op.less rest refl refl
operator_front op.greater_or_equal rest = symbol_front op.greater_or_equal rest refl refl
operator_front op.greater rest = symbol_front op.greater rest refl refl
operator_front op.exactly_equal rest = symbol_front op.exactly_equal rest refl refl
operator_front op.exactly_not_equal rest = symbol_front op.exactly_not_equal rest refl refl
operator_front op.plus rest = symbol_front op.plus rest refl refl
operator_front op.minus rest = symbol_front op.minus rest refl refl
operator_front op.bit_or rest = name_front op.bit_or rest refl refl refl
operator_front op.bit_xor rest = name_front op.bit_xor rest refl refl refl
operator_front op.one_of rest = name_front op.one_of rest refl refl refl
operator_front op.just_one_of rest = name_front op.just_one_of rest refl refl refl
operator_front op.times rest = symbol_front op.times rest refl refl
operator_front op.divide rest = name_front op.divide rest refl refl refl
operator_front op.remainder rest = name_front op.remainder rest refl refl refl
operator_front op.bit_and rest = name_front op.bit_and rest refl refl refl
operator_front op.all_of rest = name_front op.all_of rest refl refl refl
operator_front op.bit_not rest = name_front op.bit_not rest refl refl refl
operator_front op.negation rest = name_front op.negation rest refl refl refl

-- ---- variables and integers

solid : (b : ℕ) (bs : List ℕ) → (b == 37) ≡ false → is_blank b ≡ false → gap_len false (b ∷ bs) ≡ 0
solid b bs h k = cond-false (b == 37) _ _ h ∙ cond-false (is_blank b) (gap_len false bs + 1) 0 k

upper_solid : (b : ℕ) → (is_upper b || (b == 95)) ≡ true → ((b == 37) ≡ false) × (is_blank b ≡ false)
upper_solid b h = (grind (arith, nat_tests), grind (arith, nat_tests))

lower_solid : (b : ℕ) → is_lower b ≡ true → ((b == 37) ≡ false) × (is_blank b ≡ false)
lower_solid b h = (grind (arith, nat_tests), grind (arith, nat_tests))

digit_solid : (b : ℕ) → is_digit b ≡ true → ((b == 37) ≡ false) × (is_blank b ≡ false)
digit_solid b h = (grind (arith, nat_tests), grind (arith, nat_tests))

variable_gap : (s rest : List ℕ) → is_variable_name s ≡ true → gap_len false (s ++ rest) ≡ 0
variable_gap [] rest h = absurd (let no : false ≡ true = h in cc)
variable_gap (b ∷ bs) rest h = let p = and_parts (is_upper b || (b == 95)) _ h in let q = upper_solid b p.0 in solid b (bs ++ rest) q.0 q.1

pub variable_front : (s rest : List ℕ) → is_variable_name s ≡ true → Follows rest → IsFront s rest (token.variable s)
variable_front s rest h f = record { gap = variable_gap s rest h; is = (a_variable, record { name = h; over = f.name; token = refl }) }

digits_gap : (ds rest : List ℕ) → 0 < length ds → all_are is_digit ds ≡ true → gap_len false (ds ++ rest) ≡ 0
digits_gap [] rest some h = absurd (omega (arith, some))
digits_gap (d ∷ ds) rest some h = let p = and_parts (is_digit d) (all_are is_digit ds) h in let q = digit_solid d p.0 in solid d (ds ++ rest) q.0 q.1

pub whole_front : (n : ℕ) (rest : List ℕ) → n < 2 ^ 64 → Follows rest → IsFront (decimal n) rest (token.whole n)
whole_front n rest small f =
    let d = number_digits n small in
    record { gap = digits_gap (decimal n) rest d.some d.all; is = (a_number, record { digits = record { some = d.some; all = d.all }; over = f.digit; alone = f.number; token = ap token.whole (sym d.value) }) }

minus_by : (ds rest : List ℕ) → 0 < length ds → all_are is_digit ds ≡ true → IsFront (45 ∷ []) (ds ++ rest) (token.operator op.minus)
minus_by [] rest some h = absurd (omega (arith, some))
minus_by (d ∷ ds) rest some h = minus_front d (ds ++ rest) (and_parts (is_digit d) (all_are is_digit ds) h).0

pub minus_before : (n : ℕ) (rest : List ℕ) → n < 2 ^ 64 → IsFront (45 ∷ []) (decimal n ++ rest) (token.operator op.minus)
minus_before n rest small = let d = number_digits n small in minus_by (decimal n) rest d.some d.all

-- ---- atoms and strings

-- each word that is no atom is among these
abbrev words : List Name
words = codes "maybe" ∷ codes "else" ∷ reserved_words

no_word_by : (s : Name) (o : Option FunToken) → token_named fun_words s ≡ o → is_among words s ≡ false → o ≡ None
no_word_by s None e h = refl
no_word_by s (Some t) e h = absurd (both_ways (is_among words s) h (named_passes (is_among words) fun_words s t refl e))

bare_front : (s rest : List ℕ) → is_written_bare s ≡ true → stops is_name_byte rest ≡ true → IsFront s rest (token.atom s)
unfolding is_written_bare
bare_front [] rest h over = absurd (let no : false ≡ true = h in cc)
bare_front (b ∷ bs) rest h over =
    let p = and_parts (is_name (b ∷ bs)) (not (is_among words (b ∷ bs))) h in
    let q = and_parts (is_lower b) _ p.0 in
    let r = lower_solid b q.0 in
    word_front (b ∷ bs) rest (token.atom (b ∷ bs)) (solid b (bs ++ rest) r.0 r.1) p.0 over (sym (ap (λ o. unwrap_or o (token.atom (b ∷ bs))) (no_word_by (b ∷ bs) (token_named fun_words (b ∷ bs)) refl (not-true _ p.1))))

-- characters with a backslash before a quote and a backslash
abbrev escaped_with : ℕ → ℕ → List ℕ
escaped_with q c = cond ((c == q) || (c == 92)) (92 ∷ c ∷ []) (c ∷ [])

-- the quotes of atoms and strings are escapes of themselves
record IsQuote (q : ℕ) : Type 0 where
  pub escape : is_escape q ≡ true
  pub code : escape_code q ≡ q

character_by : (q c : ℕ) (b : Bool) → ((c == q) || (c == 92)) ≡ b → IsQuote q → is_printable c ≡ true → IsCharacterOf q (cond b (92 ∷ c ∷ []) (c ∷ [])) c
character_by q c true e i h =
    elim (or_cases (c == q) (c == 92) e) [
      | inl x ↦ (let same = eqb-true c q x in inr (c, refl, ap is_escape same ∙ i.escape, same ∙ sym i.code ∙ ap escape_code (sym same)))
      | inr x ↦ (let same = eqb-true c 92 x in inr (c, refl, ap is_escape same, same ∙ ap escape_code (sym same)))
    ]
character_by q c false e i h = inl (refl, and_from (is_printable c) (not ((c == q) || (c == 92))) h (not_from_false _ e))

characters_are : (q : ℕ) (s : List ℕ) → IsQuote q → all_are is_printable s ≡ true → AreCharactersOf q (flat_map (escaped_with q) s) s
characters_are q [] i h = refl
characters_are q (c ∷ cs) i h =
    let p = and_parts (is_printable c) (all_are is_printable cs) h in
    (escaped_with q c, flat_map (escaped_with q) cs, refl, character_by q c ((c == q) || (c == 92)) refl i p.0, characters_are q cs i p.1)

quoted_front : (s rest : List ℕ) → all_are is_printable s ≡ true → IsFront (39 ∷ flat_map escape s ++ 39 ∷ []) rest (token.atom s)
quoted_front s rest h = record {
  gap = refl;
  is = (a_quoted_atom, record { name = s; quoted = record { body = flat_map escape s; text = refl; are = characters_are 39 s (record { escape = refl; code = refl }) h }; printable = h; token = refl });
}

pub atom_front : (s rest : List ℕ) → all_are is_printable s ≡ true → stops is_name_byte rest ≡ true → IsFront (atom_text s) rest (token.atom s)
atom_front s rest h over = cond_both (is_written_bare s) s (39 ∷ flat_map escape s ++ 39 ∷ []) (λ u. IsFront u rest (token.atom s)) (λ b. bare_front s rest b over) (λ b. quoted_front s rest h)

pub string_front : (s rest : List ℕ) → all_are is_printable s ≡ true → Follows rest → IsFront (string_text s) rest (token.characters s)
string_front s rest h f = record {
  gap = refl;
  is = (a_string, record { codes_of = s; quoted = record { body = flat_map string_character s; text = refl; are = characters_are 34 s (record { escape = refl; code = refl }) h }; alone = f.quote; token = refl });
}
