-- Lists that are seen from their end.
use Rattle.std.proofs.Common.{◌≡◌, ℕ, ◌+◌, ◌<◌, List, [], ◌∷◌, ◌++◌, length, get_or, take, map, reverse, refl, ap, ap₂, sym, ◌∙◌}
use Rattle.std.proofs.lemmas.List.{map_more, map-append, reverse-append}

-- one more is the first from the end
pub first_from_end : {X Z : Type 0} (f : X → Z) (xs : List X) (i : ℕ) (x : X) (z : Z) (zs : List Z)
    → i < length xs → x ≡ get_or xs i x → z ≡ f x → zs ≡ reverse (map f (take i xs)) → z ∷ zs ≡ reverse (map f (take (i + 1) xs))
first_from_end f xs i x z zs below is same so_far =
    ap₂ (λ y ys. y ∷ ys) (same ∙ ap f is) so_far ∙ sym (ap reverse (map_more f xs i x below) ∙ reverse-append (map f (take i xs)) (f (get_or xs i x) ∷ []))

pub map_from_end : {X Z : Type 0} (f : X → Z) (xs : List X) → reverse (map f xs) ≡ map f (reverse xs)
map_from_end f [] = refl
map_from_end f (x ∷ xs) =
    reverse-append (f x ∷ []) (map f xs) ∙ ap (λ zs. zs ++ f x ∷ []) (map_from_end f xs)
    ∙ sym (map-append f (reverse xs) (x ∷ [])) ∙ ap (map f) (sym (reverse-append (x ∷ []) xs))
