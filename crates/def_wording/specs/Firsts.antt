-- The first element of a list for which there is something (own).
-- Depends on nothing.
use Rattle.std.specs.Prelude.{List, [], ◌∷◌, ◌++◌, Option, None}
use Rattle.std.specs.Option.{option_or}

-- what there is for the first element that has something, given the elements before it
abbrev pub first_with_earlier : {X Y : Type 0} → (List X → X → Option Y) → List X → List X → Option Y
first_with_earlier p earlier [] = None
first_with_earlier p earlier (x ∷ xs) = option_or (p earlier x) (first_with_earlier p (earlier ++ x ∷ []) xs)
