-- What is seen of events that are put after others.
use Rattle.std.proofs.Common.{◌≡◌, List, [], ◌∷◌, ◌++◌, map, ap, ◌∙◌}
use mathlib.Core.List.{append_assoc}
use Rattle.std.proofs.lemmas.List.{map-append}

pub one_between : {X Y : Type 0} (h : X → Y) (xs ys : List X) (x : X) (front back all : List Y)
    → ys ≡ xs ++ x ∷ [] → map h xs ≡ front → all ≡ map h ys ++ back → all ≡ front ++ h x ∷ back
one_between h xs ys x front back all more seen is =
    is ∙ ap (λ zs. map h zs ++ back) more ∙ ap (λ zs. zs ++ back) (map-append h xs (x ∷ [])) ∙ append_assoc (map h xs) (h x ∷ []) back
    ∙ ap (λ zs. zs ++ h x ∷ back) seen
