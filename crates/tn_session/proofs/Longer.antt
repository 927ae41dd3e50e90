-- Lists with one or two more elements, seen through a function.
use Rattle.std.proofs.Common.{◌≡◌, ◌∙◌, List, [], ◌∷◌, ◌++◌, map, ap}
use Rattle.std.proofs.lemmas.List.{map-append}

pub one_more : {X Y : Type 0} (f : X → Y) (xs ys : List X) (x : X) (seen : List Y) → ys ≡ xs ++ x ∷ [] → map f xs ≡ seen → map f ys ≡ seen ++ f x ∷ []
one_more f xs ys x seen e h = ap (map f) e ∙ map-append f xs (x ∷ []) ∙ ap (λ zs. zs ++ f x ∷ []) h

pub two_more : {X Y : Type 0} (f : X → Y) (xs ys zs : List X) (x y : X) (seen : List Y) → ys ≡ xs ++ x ∷ [] → zs ≡ ys ++ y ∷ [] → map f xs ≡ seen → map f zs ≡ (seen ++ f x ∷ []) ++ f y ∷ []
two_more f xs ys zs x y seen d e h = one_more f ys zs y (seen ++ f x ∷ []) e (one_more f xs ys x seen d h)
