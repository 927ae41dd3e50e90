-- A line that has a format of `dbg` is the format with its parts.
use Rattle.std.proofs.Common.{◌≡◌, ◌∙◌, ℕ, ◌==◌, Bool, true, false, not, ◌&&◌, ◌||◌, List, [], ◌∷◌, ◌++◌, take, drop, flat_map, refl, ap, sym, rules}
use Rattle.std.specs.Prelude.{if◌then◌else◌}
use Rattle.std.specs.List.{All, list_all}
use Rattle.std.proofs.lemmas.List.{take-append-drop}
use Rattle.std.proofs.lemmas.List.Elements.{All-nil, All-cons}
use Rattle.def_term.specs.Text.{is_digit}
use Rattle.def_trace_text.specs.DbgFormats.{DbgFormat, dbg_formats, begins_with_byte, span_length, has_format, part_of_line, with_parts}
use Rattle.def_trace_text.proofs.TextLines.{no_bytes}

-- no digit of the others is this byte
abbrev pub is_apart : ℕ → List ℕ → Bool
is_apart c others = list_all (λ b. not (is_digit b && (c == b))) others

-- each digit of a format is there once
abbrev pub has_each_once : List ℕ → Bool
has_each_once [] = true
has_each_once (c ∷ others) = is_apart c others && has_each_once others

and_left : (a b : Bool) → a && b ≡ true → a ≡ true
and_left true b h = refl
and_left false b h = h

and_right : (a b : Bool) → a && b ≡ true → b ≡ true
and_right true b h = h
and_right false b h = absurd (cc)

-- what there is for a byte of a text
abbrev pub place_of : List ℕ → List ℕ → ℕ → List ℕ
place_of printed line b = if is_digit b then part_of_line b printed line else b ∷ []

-- the first byte of a format has no part of another digit
other_place : (digit same : Bool) (front part : List ℕ) (b : ℕ) → not (digit && same) ≡ true → (if digit then (if same then front else part) else b ∷ []) ≡ (if digit then part else b ∷ [])
other_place true true front part b h = absurd (cc)
other_place true false front part b h = refl
other_place false same front part b h = refl

other_places : (c : ℕ) (others line text : List ℕ) → is_apart c text ≡ true → flat_map (place_of (c ∷ others) line) text ≡ flat_map (place_of others (drop (span_length c others line) line)) text
other_places c others line [] h = refl
other_places c others line (b ∷ bs) h =
    let n = span_length c others line in
    let first = other_place (is_digit b) (c == b) (take n line) (part_of_line b others (drop n line)) b (and_left (not (is_digit b && (c == b))) (is_apart c bs) h) in
    let rest = other_places c others line bs (and_right (not (is_digit b && (c == b))) (is_apart c bs) h) in
    ap (λ x. x ++ flat_map (place_of (c ∷ others) line) bs) first ∙ ap (λ x. place_of others (drop n line) b ++ x) rest

same_byte : (c : ℕ) → (c == c) ≡ true
same_byte c = search rules

-- what there is for the first byte, and the rest of the line
first_place : (digit : Bool) (c : ℕ) (others line : List ℕ) → is_digit c ≡ digit → digit || begins_with_byte c line ≡ true → place_of (c ∷ others) line c ++ drop (span_length c others line) line ≡ line
first_place true c others line e h = rw (e, same_byte c) (take-append-drop _ line)
first_place false c others [] e h = absurd (cc)
first_place false c others (b ∷ bs) e h = let is : b ≡ c = search rules in rw (e) (ap (λ x. x ∷ bs) (sym is))

pub line_of_parts : (format line : List ℕ) → has_each_once format ≡ true → has_format format line ≡ true → with_parts format format line ≡ line
line_of_parts [] line once h = sym (no_bytes line h)
line_of_parts (c ∷ others) line once h =
    let n = span_length c others line in
    let rest = line_of_parts others (drop n line) (and_right (is_apart c others) (has_each_once others) once) (and_right (is_digit c || begins_with_byte c line) (has_format others (drop n line)) h) in
    let places = other_places c others line others (and_left (is_apart c others) (has_each_once others) once) in
    let first = first_place (is_digit c) c others line refl (and_left (is_digit c || begins_with_byte c line) (has_format others (drop n line)) h) in
    ap (λ x. place_of (c ∷ others) line c ++ x) (places ∙ rest) ∙ first

-- of each format of `dbg`
abbrev LineIsItsParts : DbgFormat → Type 0
LineIsItsParts f = (line : List ℕ) → has_format f.printed line ≡ true → with_parts f.printed f.printed line ≡ line

each : (fs : List DbgFormat) → list_all (λ f. has_each_once f.printed) fs ≡ true → All LineIsItsParts fs
each [] h = All-nil LineIsItsParts
each (f ∷ fs) h =
    let once = and_left (has_each_once f.printed) (list_all (λ f. has_each_once f.printed) fs) h in
    let others = and_right (has_each_once f.printed) (list_all (λ f. has_each_once f.printed) fs) h in
    All-cons LineIsItsParts f fs (λ line e. line_of_parts f.printed line once e) (each fs others)

pub lines_of_dbg : All LineIsItsParts dbg_formats
lines_of_dbg = each dbg_formats refl
