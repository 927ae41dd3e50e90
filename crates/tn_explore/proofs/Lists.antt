-- One of several, and each of them, by places.
use Rattle.std.proofs.Common.{◌≡◌, ◌∙◌, ◌<◌, ◌≤◌, ◌+◌, inl, inr, ℕ, zero, suc, List, [], ◌∷◌, ◌++◌, length, map, take, get_or, append_assoc, refl, sym, ap, arith}
use Rattle.std.proofs.lemmas.List.{take_more}
use Rattle.def_explore.specs.Lists.{OneOf, EachOf}

pub one_at : {X : Type 0} (P : X → Type 0) (xs : List X) (i : ℕ) (d : X) → i < length xs → P (get_or xs i d) → OneOf P xs
one_at P [] i d below h = absurd (omega arith)
one_at P (y ∷ ys) zero d below h = inl h
one_at P (y ∷ ys) (suc i) d below h = inr (one_at P ys i d (omega arith) h)

pub each_at : {X : Type 0} (P : X → Type 0) (xs : List X) (i : ℕ) (d : X) → i < length xs → EachOf P xs → P (get_or xs i d)
each_at P [] i d below h = absurd (omega arith)
each_at P (y ∷ ys) zero d below h = h.0
each_at P (y ∷ ys) (suc i) d below h = each_at P ys i d (omega arith) h.1

pub one_mapped : {X Y : Type 0} (P : Y → Type 0) (f : X → Y) (xs : List X) → OneOf (λ x. P (f x)) xs → OneOf P (map f xs)
one_mapped P f [] h = h
one_mapped P f (x ∷ xs) (inl h) = inl h
one_mapped P f (x ∷ xs) (inr h) = inr (one_mapped P f xs h)

pub map_both : {X Y : Type 0} (f : X → Y) (xs ys : List X) → map f (xs ++ ys) ≡ map f xs ++ map f ys
map_both f [] ys = refl
map_both f (x ∷ xs) ys = ap (λ zs. f x ∷ zs) (map_both f xs ys)

-- a property of what they are mapped to, and back
pub each_mapped : {X Y : Type 0} (P : Y → Type 0) (f : X → Y) (xs : List X) → EachOf (λ x. P (f x)) xs → EachOf P (map f xs)
each_mapped P f [] h = tt
each_mapped P f (x ∷ xs) h = (h.0, each_mapped P f xs h.1)

-- what holds of each of two lists holds of each of the second
pub each_right : {X : Type 0} (P : X → Type 0) (xs ys : List X) → EachOf P (xs ++ ys) → EachOf P ys
each_right P [] ys h = h
each_right P (x ∷ xs) ys h = each_right P xs ys h.1

-- two properties of each
pub each_zip : {X : Type 0} (P Q R : X → Type 0) (xs : List X) → ((x : X) → P x → Q x → R x) → EachOf P xs → EachOf Q xs → EachOf R xs
each_zip P Q R [] f h k = tt
each_zip P Q R (x ∷ xs) f h k = (f x h.0 k.0, each_zip P Q R xs f h.1 k.1)

-- one that none is
pub none_is : {X : Type 0} (P : X → Type 0) (xs : List X) → EachOf (λ x. P x → ⊥) xs → OneOf P xs → ⊥
none_is P [] h k = k
none_is P (x ∷ xs) h (inl k) = h.0 k
none_is P (x ∷ xs) h (inr k) = none_is P xs h.1 k

-- ---- a list of which the first so many were taken off

abbrev rest_of : {X : Type 0} → List X → List X
rest_of [] = []
rest_of (x ∷ xs) = xs

-- the next one is the one at that place
pub next_at : {X : Type 0} (xs : List X) (i : ℕ) (x d : X) (ys : List X) → i < length xs → take i xs ++ x ∷ ys ≡ xs → x ≡ get_or xs i d
next_at [] i x d ys below h = absurd (omega arith)
next_at (z ∷ zs) zero x d ys below h = ap (λ ws. get_or ws 0 d) h
next_at (z ∷ zs) (suc i) x d ys below h = next_at zs i x d ys (omega arith) (ap rest_of h)

-- and without it one more was taken off
pub one_more_off : {X : Type 0} (xs : List X) (i : ℕ) (x : X) (ys : List X) → i < length xs → take i xs ++ x ∷ ys ≡ xs → take (i + 1) xs ++ ys ≡ xs
one_more_off xs i x ys below h =
    ap (λ zs. zs ++ ys) (take_more xs i x below ∙ ap (λ z. take i xs ++ z ∷ []) (sym (next_at xs i x x ys below h)))
    ∙ append_assoc (take i xs) (x ∷ []) ys
    ∙ h

-- where none is left all were taken off
pub all_off : {X : Type 0} (xs : List X) (i : ℕ) (ys : List X) → ys ≡ [] → take i xs ++ ys ≡ xs → length xs ≤ i
all_off [] i ys none h = omega arith
all_off (z ∷ zs) zero ys none h = let e : 0 ≡ length (z ∷ zs) = ap length (sym none ∙ h) in absurd (omega (arith, e))
all_off (z ∷ zs) (suc i) ys none h = let rest : length zs ≤ i = all_off zs i ys none (ap rest_of h) in omega arith
