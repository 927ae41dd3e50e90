-- What `dbg` prints by a format of written terms is read as the message that has them.
use Rattle.std.proofs.Common.{◌≡◌, ◌∙◌, ℕ, ◌==◌, Bool, true, false, not, ◌&&◌, ◌||◌, List, [], ◌∷◌, ◌++◌, length, take, drop, None, refl, ap, rules, arith}
use Rattle.std.specs.Prelude.{slice_index}
use Rattle.std.specs.List.{All, list_all}
use Rattle.std.proofs.lemmas.Bool.{and_parts}
use Rattle.std.proofs.Math.Seq.{take-append_seam, drop-append_seam}
use Rattle.std.proofs.lemmas.List.Elements.{All-nil, All-cons}
use Rattle.def_term.specs.Tree.{Trees}
use Rattle.def_term.specs.Text.{is_digit, comma_list}
use Rattle.def_text.specs.Writable.{are_writable}
use Rattle.def_trace_text.specs.DbgFormats.{DbgFormat, begins_with_byte, part_length, span_length, has_format, part_of_line, with_parts, with_term_texts}
use Rattle.def_trace_text.specs.ErrorMaps.{has_sign}
use Rattle.def_trace_text.proofs.SignParts.{is_quiet_format, format_is_quiet}
use Rattle.def_trace_text.proofs.WrittenParts.{ends_part, written_parts}

abbrev pub AreWritable : (ℕ → Trees) → Type 0
AreWritable terms = (digit : ℕ) → are_writable (terms digit) ≡ true

-- what comes after a part is its end: the format goes on with a byte that ends parts, or it ends
abbrev pub is_cut : List ℕ → Bool
is_cut others = ends_part (slice_index others 0) && not (is_digit (slice_index others 0))

-- after each digit is the end of its part
abbrev pub has_cuts : List ℕ → Bool
has_cuts [] = true
has_cuts (c ∷ others) = (not (is_digit c) || is_cut others) && has_cuts others

pub same_byte : (c : ℕ) → (c == c) ≡ true
same_byte c = search rules

-- no byte of the rest is in the part
none_more : (others : List ℕ) (terms : ℕ → Trees) → is_cut others ≡ true → part_length (slice_index others 0) None false 0 (with_term_texts others terms) ≡ 0
none_more [] terms h = refl
none_more (e ∷ others) terms h =
    let p = and_parts (ends_part e) (not (is_digit e)) h in
    let literal : is_digit e ≡ false = search rules in
    rw (literal, same_byte e) refl

-- ---- one byte of a format

pub with_digit : (c : ℕ) (others : List ℕ) (terms : ℕ → Trees) → is_digit c ≡ true → with_term_texts (c ∷ others) terms ≡ comma_list (terms c) ++ with_term_texts others terms
with_digit c others terms e = rw e refl

pub with_literal : (c : ℕ) (others : List ℕ) (terms : ℕ → Trees) → is_digit c ≡ false → with_term_texts (c ∷ others) terms ≡ c ∷ with_term_texts others terms
with_literal c others terms e = rw e refl

pub span_is_part : (c : ℕ) (others line : List ℕ) → is_digit c ≡ true → span_length c others line ≡ part_length (slice_index others 0) None false 0 line
span_is_part c others line e = rw e refl

span_is_one : (c : ℕ) (others line : List ℕ) → is_digit c ≡ false → span_length c others line ≡ 1
span_is_one c others line e = rw e refl

-- the part of a digit is the text of its terms
span_of_digit : (c : ℕ) (others : List ℕ) (terms : ℕ → Trees) → is_digit c ≡ true → is_cut others ≡ true → AreWritable terms → span_length c others (comma_list (terms c) ++ with_term_texts others terms) ≡ length (comma_list (terms c))
span_of_digit c others terms e cut ok =
    let p = and_parts (ends_part (slice_index others 0)) (not (is_digit (slice_index others 0))) cut in
    let part = written_parts (terms c) (slice_index others 0) 0 p.0 (ok c) (with_term_texts others terms) in
    let none = none_more others terms cut in
    let span = span_is_part c others (comma_list (terms c) ++ with_term_texts others terms) e in
    omega (arith, part, none, span)

pub cut_there : (digit cut : Bool) → not digit || cut ≡ true → digit ≡ true → cut ≡ true
cut_there digit cut h e = search rules

-- what is left after it
rest_left : (digit : Bool) (c : ℕ) (others : List ℕ) (terms : ℕ → Trees) → is_digit c ≡ digit → not (is_digit c) || is_cut others ≡ true → AreWritable terms
    → drop (span_length c others (with_term_texts (c ∷ others) terms)) (with_term_texts (c ∷ others) terms) ≡ with_term_texts others terms
rest_left true c others terms e cut ok =
    ap (λ l. drop (span_length c others l) l) (with_digit c others terms e)
    ∙ ap (λ n. drop n (comma_list (terms c) ++ with_term_texts others terms)) (span_of_digit c others terms e (cut_there (is_digit c) (is_cut others) cut e) ok)
    ∙ drop-append_seam (comma_list (terms c)) (with_term_texts others terms)
rest_left false c others terms e cut ok =
    ap (λ l. drop (span_length c others l) l) (with_literal c others terms e)
    ∙ ap (λ n. drop n (c ∷ with_term_texts others terms)) (span_is_one c others (c ∷ with_term_texts others terms) e)

begins : (digit : Bool) (c : ℕ) (others : List ℕ) (terms : ℕ → Trees) → is_digit c ≡ digit → is_digit c || begins_with_byte c (with_term_texts (c ∷ others) terms) ≡ true
begins true c others terms e = rw e refl
begins false c others terms e = rw (e, same_byte c) refl

-- ---- a format

both_true : (a b : Bool) → a ≡ true → b ≡ true → a && b ≡ true
both_true a b h k = rw (h, k) refl

pub has_its_format : (format : List ℕ) (terms : ℕ → Trees) → has_cuts format ≡ true → AreWritable terms → has_format format (with_term_texts format terms) ≡ true
has_its_format [] terms h ok = refl
has_its_format (c ∷ others) terms h ok =
    let p = and_parts (not (is_digit c) || is_cut others) (has_cuts others) h in
    both_true _ _ (begins (is_digit c) c others terms refl) (ap (has_format others) (rest_left (is_digit c) c others terms refl p.0 ok) ∙ has_its_format others terms p.1 ok)

abbrev is_there : ℕ → List ℕ → Bool
is_there b [] = false
is_there b (c ∷ others) = (c == b) || is_there b others

-- the part in the place of a digit is the text of its terms
part_is : (b : ℕ) (format : List ℕ) (terms : ℕ → Trees) → is_digit b ≡ true → is_there b format ≡ true → has_cuts format ≡ true → AreWritable terms → part_of_line b format (with_term_texts format terms) ≡ comma_list (terms b)
part_is b [] terms e there h ok = absurd (cc)
part_is b (c ∷ others) terms e there h ok =
    let p = and_parts (not (is_digit c) || is_cut others) (has_cuts others) h in
    let rest = rest_left (is_digit c) c others terms refl p.0 ok in
    by_byte (c == b) refl p.0 (λ more. ap (part_of_line b others) rest ∙ part_is b others terms e more p.1 ok)
  where
    by_byte : (same : Bool) → (c == b) ≡ same → not (is_digit c) || is_cut others ≡ true
        → (is_there b others ≡ true → part_of_line b others (drop (span_length c others (with_term_texts (c ∷ others) terms)) (with_term_texts (c ∷ others) terms)) ≡ comma_list (terms b))
        → part_of_line b (c ∷ others) (with_term_texts (c ∷ others) terms) ≡ comma_list (terms b)
    by_byte true same cut later =
        let is : c ≡ b = search rules in
        let digit : is_digit c ≡ true = ap is_digit is ∙ e in
        rw same
        (ap (λ l. take (span_length c others l) l) (with_digit c others terms digit)
        ∙ ap (λ n. take n (comma_list (terms c) ++ with_term_texts others terms)) (span_of_digit c others terms digit (cut_there (is_digit c) (is_cut others) cut digit) ok)
        ∙ take-append_seam (comma_list (terms c)) (with_term_texts others terms)
        ∙ ap (λ d. comma_list (terms d)) is)
    by_byte false same cut later = let more : is_there b others ≡ true = search rules in rw same (later more)

-- each digit of the text is one of the format
abbrev has_digits_of : List ℕ → List ℕ → Bool
has_digits_of format text = list_all (λ b. not (is_digit b) || is_there b format) text

text_is : (format text : List ℕ) (terms : ℕ → Trees) → has_digits_of format text ≡ true → has_cuts format ≡ true → AreWritable terms → with_parts text format (with_term_texts format terms) ≡ with_term_texts text terms
text_is format [] terms h cuts ok = refl
text_is format (b ∷ text) terms h cuts ok =
    let p = and_parts (not (is_digit b) || is_there b format) (has_digits_of format text) h in
    let others = text_is format text terms p.1 cuts ok in
    by_byte (is_digit b) refl p.0 others
  where
    by_byte : (digit : Bool) → is_digit b ≡ digit → not (is_digit b) || is_there b format ≡ true → with_parts text format (with_term_texts format terms) ≡ with_term_texts text terms
        → with_parts (b ∷ text) format (with_term_texts format terms) ≡ with_term_texts (b ∷ text) terms
    by_byte true e there others =
        let part = part_is b format terms e (cut_there (is_digit b) (is_there b format) there e) cuts ok in
        rw e (ap (λ x. x ++ with_parts text format (with_term_texts format terms)) part ∙ ap (λ x. comma_list (terms b) ++ x) others)
    by_byte false e there others = rw e (ap (λ x. b ∷ x) others)

-- ---- the formats of `dbg`

-- the line has the format, its text is the message's, and that has no number sign but between quotes
abbrev pub IsRead : (ℕ → Trees) → DbgFormat → Type 0
IsRead terms f =
    (has_format f.printed (with_term_texts f.printed terms) ≡ true) × (with_parts f.message f.printed (with_term_texts f.printed terms) ≡ with_term_texts f.message terms)
    × (has_sign None false (with_term_texts f.message terms) ≡ false)

abbrev pub is_sound : DbgFormat → Bool
is_sound f = has_cuts f.printed && (has_digits_of f.printed f.message && is_quiet_format None false f.message)

pub each_read : (fs : List DbgFormat) (terms : ℕ → Trees) → list_all is_sound fs ≡ true → AreWritable terms → All (IsRead terms) fs
each_read [] terms h ok = All-nil (IsRead terms)
each_read (f ∷ fs) terms h ok =
    let p = and_parts (is_sound f) (list_all is_sound fs) h in
    let q = and_parts (has_cuts f.printed) (has_digits_of f.printed f.message && is_quiet_format None false f.message) p.0 in
    let r = and_parts (has_digits_of f.printed f.message) (is_quiet_format None false f.message) q.1 in
    All-cons (IsRead terms) f fs (has_its_format f.printed terms q.0 ok, text_is f.printed f.message terms r.0 q.0 ok, format_is_quiet None false f.message terms r.1 ok) (each_read fs terms p.1 ok)
