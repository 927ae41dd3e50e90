-- Of several one, or all.
use Rattle.std.specs.Prelude.{◌⊎◌, List, [], ◌∷◌}

-- one of these is so
abbrev pub OneOf : {X : Type 0} → (X → Type 0) → List X → Type 0
OneOf P [] = ⊥
OneOf P (x ∷ xs) = P x ⊎ OneOf P xs

-- each of them is
abbrev pub EachOf : {X : Type 0} → (X → Type 0) → List X → Type 0
EachOf P [] = Unit {0}
EachOf P (x ∷ xs) = P x × EachOf P xs
