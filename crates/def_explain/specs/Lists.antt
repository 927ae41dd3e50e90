-- Of several one.
use Rattle.std.specs.Prelude.{◌⊎◌, List, [], ◌∷◌}

-- one of these is so
abbrev pub One : {X : Type 0} → (X → Type 0) → List X → Type 0
One P [] = ⊥
One P (x ∷ xs) = P x ⊎ One P xs
