-- Texts with numbers in them, texts of several things, and texts inside an element of XML ("Extensible Markup Language 1.0", "Character Data and Markup").
-- Depends on nothing.
use Rattle.std.specs.Prelude.{ℕ, ◌+◌, ◌==◌, if◌then◌else◌, List, [], ◌∷◌, ◌++◌, flat_map, codes, decimal}

-- the template with each `@` replaced by the next number; one for which no number is left stays
unfoldable pub fill : (template numbers : List ℕ) → List ℕ
fill [] ns = []
fill (b ∷ bs) [] = b ∷ fill bs []
fill (b ∷ bs) (n ∷ ns) = if b == 64 then decimal n ++ fill bs ns else b ∷ fill bs (n ∷ ns)

-- the texts of some things, which are numbered from n
abbrev pub each_numbered : {X : Type 0} → (ℕ → X → List ℕ) → ℕ → List X → List ℕ
each_numbered f n [] = []
each_numbered f n (x ∷ xs) = f n x ++ each_numbered f (n + 1) xs

-- a byte of a text: `<`, `>`, `&` and `"` have names
abbrev pub xml_byte : ℕ → List ℕ
xml_byte b =
    if b == 60 then codes "&lt;" else
    if b == 62 then codes "&gt;" else
    if b == 38 then codes "&amp;" else
    if b == 34 then codes "&quot;" else b ∷ []

-- a text as the content of an element
abbrev pub xml_text : List ℕ → List ℕ
xml_text bs = flat_map xml_byte bs
