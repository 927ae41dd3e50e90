-- The text of JSON has no line feed but those of its numbers.
use Rattle.std.proofs.Common.{◌≡◌, ◌+◌, ◌/◌, ◌%◌, ◌==◌, ◌&&◌, ℕ, Bool, true, false, cond, if◌then◌else◌, nat_lt, List, [], ◌∷◌, ◌++◌, refl, ap, ◌∙◌, arith}
use Rattle.std.specs.Char.{digit_char}
use Rattle.json.specs.Token.{Token, begin_object, end_object, begin_array, end_array, key, string, number, boolean, null, bad}
use Rattle.json.specs.Print.{escape_letter, escape_byte, escape, quoted, token_text, begins, separator, ends, print_from}
use Rattle.def_text.specs.Places.{line_feeds}
use Rattle.def_text.proofs.Columns.{line_feeds-append}

pub none-append : (xs ys : List ℕ) → line_feeds xs ≡ 0 → line_feeds ys ≡ 0 → line_feeds (xs ++ ys) ≡ 0
none-append xs ys e f = omega (arith, e, f, line_feeds-append xs ys)

none-cons : (b : ℕ) (bs : List ℕ) → (b == 10) ≡ false → line_feeds bs ≡ 0 → line_feeds (b ∷ bs) ≡ 0
none-cons b bs e f = ap (λ t. if t then line_feeds bs + 1 else line_feeds bs) e ∙ f

either : (b : Bool) (xs ys : List ℕ) → (b ≡ true → line_feeds xs ≡ 0) → (b ≡ false → line_feeds ys ≡ 0) → line_feeds (cond b xs ys) ≡ 0
either true xs ys p q = p refl
either false xs ys p q = q refl

-- ---- a byte of a string

letter_is_none : (x : ℕ) → (escape_letter x == 10) ≡ false
letter_is_none x = grind arith

digit_is_none : (d : ℕ) → (digit_char d == 10) ≡ false
digit_is_none d = grind arith

-- a byte that has no escape is none: a line feed has one
plain_is_none : (x : ℕ) → nat_lt x 32 ≡ false → (x == 10) ≡ false
plain_is_none x e = grind arith

escape_byte_none : (x : ℕ) → line_feeds (escape_byte x) ≡ 0
unfolding escape_byte
escape_byte_none x =
    either (nat_lt 0 (escape_letter x)) _ _
    (λ _. none-cons (escape_letter x) [] (letter_is_none x) refl)
    (λ _. either (nat_lt x 32) _ _
    (λ _. none-cons (digit_char (x / 16)) (digit_char (x % 16) ∷ []) (digit_is_none (x / 16)) (none-cons (digit_char (x % 16)) [] (digit_is_none (x % 16)) refl))
    (λ e. none-cons x [] (plain_is_none x e) refl))

escape_none : (s : List ℕ) → line_feeds (escape s) ≡ 0
escape_none [] = refl
escape_none (x ∷ xs) = none-append (escape_byte x) (escape xs) (escape_byte_none x) (escape_none xs)

quoted_none : (s : List ℕ) → line_feeds (quoted s) ≡ 0
quoted_none s = none-append (escape s) (34 ∷ []) (escape_none s) refl

-- ---- tokens

-- the text of a number has none
abbrev pub NumberHasNone : Token → Type 0
NumberHasNone begin_object = Unit {0}
NumberHasNone end_object = Unit {0}
NumberHasNone begin_array = Unit {0}
NumberHasNone end_array = Unit {0}
NumberHasNone (key s) = Unit {0}
NumberHasNone (string s) = Unit {0}
NumberHasNone (number s) = line_feeds s ≡ 0
NumberHasNone (boolean b) = Unit {0}
NumberHasNone null = Unit {0}
NumberHasNone bad = Unit {0}

abbrev pub NumbersHaveNone : List Token → Type 0
NumbersHaveNone [] = Unit {0}
NumbersHaveNone (t ∷ ts) = NumberHasNone t × NumbersHaveNone ts

token_none : (t : Token) → NumberHasNone t → line_feeds (token_text t) ≡ 0
token_none begin_object h = refl
token_none end_object h = refl
token_none begin_array h = refl
token_none end_array h = refl
token_none (key s) h = none-append (quoted s) (58 ∷ []) (quoted_none s) refl
token_none (string s) h = quoted_none s
token_none (number s) h = h
token_none (boolean true) h = refl
token_none (boolean false) h = refl
token_none null h = refl
token_none bad h = refl

separator_none : (after_value : Bool) (t : Token) → line_feeds (separator after_value t) ≡ 0
separator_none after_value t = either (after_value && begins t) _ _ (λ _. refl) (λ _. refl)

pub print_none : (after_value : Bool) (ts : List Token) → NumbersHaveNone ts → line_feeds (print_from after_value ts) ≡ 0
unfolding print_from
print_none after_value [] h = refl
print_none after_value (t ∷ ts) h =
    none-append (separator after_value t) (token_text t ++ print_from (ends t) ts) (separator_none after_value t)
    (none-append (token_text t) (print_from (ends t) ts) (token_none t h.0) (print_none (ends t) ts h.1))
