-- A text that is copied without the maps of errors.
use Rattle.std.proofs.Common.{◌≡◌, ◌∙◌, ℕ, ◌==◌, Bool, true, false, ◌&&◌, List, [], ◌∷◌, ◌++◌, length, drop, Option, None, Some, codes, refl, ap, sym, append_assoc}
use Rattle.std.specs.Option.{is_none}
use Rattle.std.specs.List.{list_any}
use Rattle.std.proofs.lemmas.Bool.{or_parts}
use Rattle.def_trace_text.specs.DbgFormats.{quote_after, escapes_next}
use Rattle.def_trace_text.specs.ErrorMaps.{has_sign, begins_error_map, error_map_length, without_maps, without_error_maps}
use Rattle.def_trace_text.proofs.ErrorMaps.{map_is_empty}

-- ---- number signs

no_sign : (quote : Option ℕ) (escaped : Bool) (text : List ℕ) → list_any (λ b. b == 35) text ≡ false → has_sign quote escaped text ≡ false
no_sign quote escaped [] h = refl
no_sign quote escaped (b ∷ bs) h =
    let p = or_parts (b == 35) (list_any (λ c. c == 35) bs) h in
    rw (p.0, none_of (is_none quote)) (no_sign (quote_after quote escaped b) (escapes_next quote escaped b) bs p.1)
  where
    none_of : (c : Bool) → c && false ≡ false
    none_of true = refl
    none_of false = refl

pub has_no_sign : (text : List ℕ) → list_any (λ b. b == 35) text ≡ false → has_sign None false text ≡ false
has_no_sign text h = no_sign None false text h

-- ---- one step

-- outside of quotes nothing is escaped
none_escaped : (escaped : Bool) (text : List ℕ) → without_maps 0 None escaped text ≡ without_error_maps text
none_escaped escaped [] = refl
none_escaped escaped (b ∷ bs) = refl

-- after a map
pub after_map : (copy rest whole : List ℕ) (quote : Option ℕ) (escaped : Bool) → (length rest == 0) ≡ false → is_none quote ≡ true → begins_error_map rest ≡ true
    → copy ++ without_maps 0 quote escaped rest ≡ whole → copy ++ codes "{error_info,[]" ++ without_maps 0 quote escaped (drop (error_map_length rest) rest) ≡ whole
after_map copy [] whole quote escaped some none begins h = absurd (cc)
after_map copy (b ∷ bs) whole None escaped some none begins h =
    let left = drop (error_map_length (b ∷ bs)) (b ∷ bs) in
    ap (λ t. copy ++ codes "{error_info,[]" ++ t) (none_escaped escaped left) ∙ append_assoc copy (codes "{error_info,[]") (without_error_maps left)
    ∙ ap (λ t. copy ++ t) (sym (none_escaped escaped (b ∷ bs) ∙ map_is_empty b bs begins)) ∙ h
after_map copy (b ∷ bs) whole (Some q) escaped some none begins h = absurd (cc)
