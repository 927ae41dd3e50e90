-- The step of a loop that adds one thing for each element.
use Rattle.std.proofs.Common.{◌≡◌, ℕ, ◌+◌, ◌<◌, List, [], ◌∷◌, ◌++◌, length, get_or, take, map, ap, sym, ◌∙◌, append_assoc}
use Rattle.std.proofs.lemmas.List.{map_more, map-append}

pub added_more : {X Z : Type 0} (f : X → Z) (xs : List X) (i : ℕ) (x : X) (before : List Z) (done new : List X) (y : X)
    → i < length xs → x ≡ get_or xs i x → new ≡ done ++ y ∷ [] → f y ≡ f x → map f done ≡ before ++ map f (take i xs) → map f new ≡ before ++ map f (take (i + 1) xs)
added_more f xs i x before done new y below is pushed same so_far =
    ap (map f) pushed ∙ map-append f done (y ∷ []) ∙ ap (λ zs. zs ++ f y ∷ []) so_far
    ∙ append_assoc before (map f (take i xs)) (f y ∷ [])
    ∙ ap (λ z. before ++ (map f (take i xs) ++ z ∷ [])) (same ∙ ap f is) ∙ ap (λ zs. before ++ zs) (sym (map_more f xs i x below))
