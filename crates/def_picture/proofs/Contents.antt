-- The content of an element has no markup.
use Rattle.std.proofs.Common.{◌≡◌, ℕ, ◌==◌, Bool, true, false, List, [], ◌∷◌, codes, refl, if◌then◌else◌}
use Rattle.std.specs.Prelude.{All}
use Rattle.std.proofs.lemmas.Bool.{eqb-false}
use Rattle.std.proofs.lemmas.List.Elements.{All-append, All-nil, All-cons}
use Rattle.def_picture.specs.Templates.{xml_byte, xml_text}
use Rattle.def_picture.specs.Laws.{IsContent, XmlTextIsContent}

one-byte : (b : ℕ) → IsContent b → All IsContent (b ∷ [])
one-byte b h = All-cons IsContent b [] h (All-nil IsContent)

-- a byte that is none of the three
abbrev is-content : ℕ → Bool
is-content b = if b == 60 then false else if b == 62 then false else if b == 34 then false else true

content : (b : ℕ) → is-content b ≡ true → IsContent b
content b h = go (b == 60) (b == 62) (b == 34) refl refl refl h
  where
    go : (x y z : Bool) → (b == 60) ≡ x → (b == 62) ≡ y → (b == 34) ≡ z → (if x then false else if y then false else if z then false else true) ≡ true → IsContent b
    go true y z e f g h = absurd (cc h)
    go false true z e f g h = absurd (cc h)
    go false false true e f g h = absurd (cc h)
    go false false false e f g h = (eqb-false b 60 e, eqb-false b 62 f, eqb-false b 34 g)

abbrev all-content : List ℕ → Bool
all-content [] = true
all-content (b ∷ bs) = if is-content b then all-content bs else false

all-of : (b : ℕ) (bs : List ℕ) (t : Bool) → is-content b ≡ t → (all-content bs ≡ true → All IsContent bs) → (if t then all-content bs else false) ≡ true → All IsContent (b ∷ bs)
all-of b bs true e rest h = All-cons IsContent b bs (content b e) (rest h)
all-of b bs false e rest h = absurd (cc h)

each : (bs : List ℕ) → all-content bs ≡ true → All IsContent bs
each [] h = All-nil IsContent
each (b ∷ bs) h = all-of b bs (is-content b) refl (each bs) h

byte-content : (b : ℕ) → All IsContent (xml_byte b)
byte-content b = at60 (b == 60) refl
  where
    plain : (b == 60) ≡ false → (b == 62) ≡ false → (b == 34) ≡ false → IsContent b
    plain e f g = (eqb-false b 60 e, eqb-false b 62 f, eqb-false b 34 g)

    at34 : (t : Bool) → (b == 34) ≡ t → (b == 60) ≡ false → (b == 62) ≡ false → All IsContent (if t then codes "&quot;" else b ∷ [])
    at34 true e f g = each (codes "&quot;") refl
    at34 false e f g = one-byte b (plain f g e)

    at38 : (t : Bool) → (b == 60) ≡ false → (b == 62) ≡ false → All IsContent (if t then codes "&amp;" else if b == 34 then codes "&quot;" else b ∷ [])
    at38 true f g = each (codes "&amp;") refl
    at38 false f g = at34 (b == 34) refl f g

    at62 : (t : Bool) → (b == 62) ≡ t → (b == 60) ≡ false → All IsContent (if t then codes "&gt;" else if b == 38 then codes "&amp;" else if b == 34 then codes "&quot;" else b ∷ [])
    at62 true e f = each (codes "&gt;") refl
    at62 false e f = at38 (b == 38) f e

    at60 : (t : Bool) → (b == 60) ≡ t → All IsContent (if t then codes "&lt;" else if b == 62 then codes "&gt;" else if b == 38 then codes "&amp;" else if b == 34 then codes "&quot;" else b ∷ [])
    at60 true e = each (codes "&lt;") refl
    at60 false e = at62 (b == 62) refl e

pub xml_text_is_content : XmlTextIsContent
xml_text_is_content [] = All-nil IsContent
xml_text_is_content (b ∷ bs) = All-append IsContent (xml_byte b) (xml_text bs) (byte-content b) (xml_text_is_content bs)
