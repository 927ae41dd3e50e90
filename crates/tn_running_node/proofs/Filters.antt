-- Of what is seen the same stays.
use Rattle.std.proofs.Common.{◌≡◌, Bool, true, false, List, [], ◌∷◌, map, if◌then◌else◌, refl, ap}
use Rattle.std.specs.List.{filter}

one-filtered : {X Y : Type 0} (f : X → Y) (x : X) (xs : List X) (ys : List Y) (b : Bool) → map f xs ≡ ys → map f (if b then x ∷ xs else xs) ≡ (if b then f x ∷ ys else ys)
one-filtered f x xs ys true h = ap (λ zs. f x ∷ zs) h
one-filtered f x xs ys false h = h

pub filter_mapped : {X Y : Type 0} (f : X → Y) (p : Y → Bool) (xs : List X) → map f (filter (λ x. p (f x)) xs) ≡ filter p (map f xs)
filter_mapped f p [] = refl
filter_mapped f p (x ∷ xs) = one-filtered f x (filter (λ y. p (f y)) xs) (filter p (map f xs)) (p (f x)) (filter_mapped f p xs)
