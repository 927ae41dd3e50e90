-- Texts without the maps of errors.
use Rattle.std.proofs.Common.{◌≡◌, ◌∙◌, ℕ, zero, suc, ◌+◌, ◌-◌, ◌==◌, Bool, true, false, ◌&&◌, cond, List, [], ◌∷◌, ◌++◌, length, drop, Option, None, Some, codes, refl, ap, sym, rules, arith}
use Rattle.std.specs.Prelude.{nat_eq}
use Rattle.std.specs.Option.{is_none}
use Rattle.std.specs.List.{prefix_len, starts_with}
use Rattle.std.proofs.lemmas.Bool.{and_parts, or_parts}
use Rattle.std.proofs.lemmas.Bool.Decides.{Decides-eqb}
use Rattle.std.proofs.lemmas.List.{drop-drop}
use Rattle.std.proofs.lemmas.Slice.Eq.{starts_is}
use Rattle.std.proofs.Math.Seq.{drop-append_seam}
use Rattle.def_text.specs.Tokens.{is_blank, all_are}
use Rattle.def_trace_text.specs.DbgFormats.{quote_after, escapes_next, part_length}
use Rattle.def_trace_text.specs.ErrorMaps.{has_sign, value_offset, begins_error_map, error_map_length, without_maps, without_error_maps}

-- ---- texts without a number sign

blank_step : (b : ℕ) (bs : List ℕ) → is_blank b ≡ true → has_sign None false (b ∷ bs) ≡ has_sign None false bs
blank_step b bs h = search rules

-- blanks are no signs
blanks_have_none : (text : List ℕ) → has_sign None false text ≡ has_sign None false (drop (prefix_len is_blank text) text)
blanks_have_none [] = refl
blanks_have_none (b ∷ bs) = by_blank (is_blank b) refl (blanks_have_none bs)
  where
    by_blank : (c : Bool) → is_blank b ≡ c → has_sign None false bs ≡ has_sign None false (drop (prefix_len is_blank bs) bs) → has_sign None false (b ∷ bs) ≡ has_sign None false (drop (cond c (1 + prefix_len is_blank bs) 0) (b ∷ bs))
    by_blank true e others = let n : 1 + prefix_len is_blank bs ≡ suc (prefix_len is_blank bs) = omega arith in rw n (blank_step b bs e ∙ others)
    by_blank false e others = refl

-- what begins with the map of an error has one
begins_with_sign : (text : List ℕ) → begins_error_map text ≡ true → has_sign None false text ≡ true
begins_with_sign text h =
    let p = and_parts (starts_with nat_eq text (codes "{error_info,")) (starts_with nat_eq (drop (value_offset text) text) (codes "#{")) h in
    let front : text ≡ codes "{error_info," ++ drop 12 text = (starts_is Decides-eqb text (codes "{error_info,") _ refl).0 p.0 in
    let value : drop (value_offset text) text ≡ codes "#{" ++ drop 2 (drop (value_offset text) text) = (starts_is Decides-eqb (drop (value_offset text) text) (codes "#{") _ refl).0 p.1 in
    let after : has_sign None false (codes "{error_info," ++ drop 12 text) ≡ has_sign None false (drop 12 text) = refl in
    ap (has_sign None false) front ∙ after ∙ blanks_have_none (drop 12 text) ∙ ap (has_sign None false) (drop-drop (prefix_len is_blank (drop 12 text)) 12 text) ∙ ap (has_sign None false) value

no_map_first : (quote : Option ℕ) (escaped : Bool) (b : ℕ) (bs : List ℕ) → has_sign quote escaped (b ∷ bs) ≡ false → is_none quote && begins_error_map (b ∷ bs) ≡ false
no_map_first None escaped b bs h = by_map (begins_error_map (b ∷ bs)) refl
  where
    by_map : (c : Bool) → begins_error_map (b ∷ bs) ≡ c → c ≡ false
    by_map true e = let some : has_sign None escaped (b ∷ bs) ≡ true = begins_with_sign (b ∷ bs) e in absurd (cc)
    by_map false e = refl
no_map_first (Some q) escaped b bs h = refl

left_after : (quote : Option ℕ) (escaped : Bool) (text : List ℕ) → has_sign quote escaped text ≡ false → without_maps 0 quote escaped text ≡ text
left_after quote escaped [] h = refl
left_after quote escaped (b ∷ bs) h =
    let p = or_parts (is_none quote && (b == 35)) (has_sign (quote_after quote escaped b) (escapes_next quote escaped b) bs) h in
    rw (no_map_first quote escaped b bs h) (ap (λ t. b ∷ t) (left_after (quote_after quote escaped b) (escapes_next quote escaped b) bs p.1))

pub left : (text : List ℕ) → has_sign None false text ≡ false → without_error_maps text ≡ text
left text h = left_after None false text h

-- ---- one map

passed : (n : ℕ) (quote : Option ℕ) (escaped : Bool) (text : List ℕ) → without_maps n quote escaped text ≡ without_maps 0 quote escaped (drop n text)
passed zero quote escaped text = refl
passed (suc n) quote escaped [] = refl
passed (suc n) quote escaped (b ∷ bs) = passed n quote escaped bs

-- the text goes on after it
pub map_is_empty : (b : ℕ) (bs : List ℕ) → begins_error_map (b ∷ bs) ≡ true → without_error_maps (b ∷ bs) ≡ codes "{error_info,[]" ++ without_error_maps (drop (error_map_length (b ∷ bs)) (b ∷ bs))
map_is_empty b bs e =
    let before = error_map_length (b ∷ bs) - 1 in
    let n : error_map_length (b ∷ bs) ≡ suc before = omega arith in
    let there : drop before bs ≡ drop (error_map_length (b ∷ bs)) (b ∷ bs) = ap (λ k. drop k (b ∷ bs)) (sym n) in
    let skip = passed before None false bs ∙ ap without_error_maps there in
    rw e (ap (λ t. codes "{error_info,[]" ++ t) skip)

-- the byte after it
pub byte_is_left : (quote : Option ℕ) (escaped : Bool) (b : ℕ) (bs : List ℕ) → is_none quote && begins_error_map (b ∷ bs) ≡ false
    → without_maps 0 quote escaped (b ∷ bs) ≡ b ∷ without_maps 0 (quote_after quote escaped b) (escapes_next quote escaped b) bs
byte_is_left quote escaped b bs e = rw e refl

-- ---- a map with its parts

blank_run : (blanks rest : List ℕ) → all_are is_blank blanks ≡ true → prefix_len is_blank (blanks ++ 35 ∷ rest) ≡ length blanks
blank_run [] rest h = refl
blank_run (b ∷ blanks) rest h =
    let p = and_parts (is_blank b) (all_are is_blank blanks) h in
    let others = blank_run blanks rest p.1 in
    rw p.0 (omega (arith, others))

-- a text that begins with the map of an error, in its parts
abbrev error_map : (blanks inside rest : List ℕ) → List ℕ
error_map blanks inside rest = codes "{error_info," ++ (blanks ++ (codes "#{" ++ (inside ++ 125 ∷ rest)))

pub map_with_parts : (blanks inside rest : List ℕ) → all_are is_blank blanks ≡ true → part_length 125 None false 0 (inside ++ 125 ∷ rest) ≡ length inside
    → without_error_maps (error_map blanks inside rest) ≡ codes "{error_info,[]" ++ without_error_maps rest
map_with_parts blanks inside rest h k =
    let text = error_map blanks inside rest in
    let value = codes "#{" ++ (inside ++ 125 ∷ rest) in
    let run : prefix_len is_blank (blanks ++ value) ≡ length blanks = blank_run blanks (123 ∷ inside ++ 125 ∷ rest) h in
    let offset : value_offset text ≡ 12 + length blanks = ap (λ n. 12 + n) run in
    let at : drop (value_offset text) text ≡ value = ap (λ n. drop n text) offset ∙ sym (drop-drop (length blanks) 12 text) ∙ drop-append_seam blanks value in
    let begins : begins_error_map text ≡ true = ap (λ v. starts_with nat_eq v (codes "#{")) at in
    let inner : drop (value_offset text + 2) text ≡ inside ++ 125 ∷ rest = sym (drop-drop 2 (value_offset text) text) ∙ ap (drop 2) at in
    let long : part_length 125 None false 0 (drop (value_offset text + 2) text) ≡ length inside = ap (part_length 125 None false 0) inner ∙ k in
    let past : drop (length inside + 1) (inside ++ 125 ∷ rest) ≡ rest = sym (drop-drop 1 (length inside) (inside ++ 125 ∷ rest)) ∙ ap (drop 1) (drop-append_seam inside (125 ∷ rest)) in
    let total : error_map_length text ≡ value_offset text + 2 + (length inside + 1) = omega (arith, long) in
    let left : drop (error_map_length text) text ≡ rest = ap (λ n. drop n text) total ∙ sym (drop-drop (length inside + 1) (value_offset text + 2) text) ∙ ap (drop (length inside + 1)) inner ∙ past in
    map_is_empty 123 (codes "error_info," ++ (blanks ++ value)) begins ∙ ap (λ t. codes "{error_info,[]" ++ without_error_maps t) left
