-- Long texts and short ones.
use Rattle.std.proofs.Common.{◌≡◌, ◌≤◌, ◌<◌, ℕ, ◌+◌, List, ◌++◌, length, take, codes, cond, true, false, refl, ap, sym, ◌∙◌, arith}
use Rattle.std.proofs.lemmas.Bool.{lt-ltb, le-ltb, cond-true, cond-false}
use Rattle.std.proofs.lemmas.List.{length-take-le}
use Rattle.std.proofs.lemmas.Grind.{flat_map-append}
use Rattle.std.proofs.Common.{length-append}
use Rattle.def_picture.specs.Svg.{is_long, first_letters}
use Rattle.def_picture.specs.Templates.{xml_byte, xml_text}

long_is : (t : List ℕ) → 100 < length t → first_letters t ≡ take 100 t ++ codes ".."
long_is t h = cond-true (is_long t) (take 100 t ++ codes "..") t (lt-ltb 100 (length t) h)

short_is : (t : List ℕ) → length t ≤ 100 → first_letters t ≡ t
short_is t h = cond-false (is_long t) (take 100 t ++ codes "..") t (le-ltb 100 (length t) h)

pub long_cut : (t : List ℕ) → 100 < length t → xml_text (first_letters t) ≡ xml_text (take 100 t) ++ codes ".."
long_cut t h = ap xml_text (long_is t h) ∙ flat_map-append xml_byte (take 100 t) (codes "..")

pub short_cut : (t : List ℕ) → length t ≤ 100 → xml_text (first_letters t) ≡ xml_text t
short_cut t h = ap xml_text (short_is t h)

pub short_letters : (t : List ℕ) → length t ≤ 100 → length (first_letters t) ≡ length t
short_letters t h = ap length (short_is t h)

pub long_letters : (t : List ℕ) → 100 < length t → length (first_letters t) ≡ 102
long_letters t h = ap length (long_is t h) ∙ length-append (take 100 t) (codes "..") ∙ ap (λ n. n + 2) (let few : 100 ≤ length t = omega arith in length-take-le 100 t few)

pub front : (t : List ℕ) → 100 < length t → 100 ≡ length (take 100 t)
front t h = sym (let few : 100 ≤ length t = omega arith in length-take-le 100 t few)
