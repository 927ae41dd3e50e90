-- Sums over a list, whose elements are seen by a view, up to a greatest number.
use Rattle.std.proofs.Common.{◌≡◌, ℕ, ◌+◌, ◌<◌, ◌≤◌, min, Bool, true, false, cond, List, [], ◌∷◌, length, get_or, take, map, flat_map, refl, sym, ap, ◌∙◌, arith, length-append}
use Rattle.std.specs.List.{sum_by, count_by}
use Rattle.std.proofs.lemmas.List.{map_more, take_all}
use Rattle.std.proofs.lemmas.List.Sums.{sum_by-append, sum_by-cons}

pub total_next : {X Y : Type 0} (m : Y → ℕ) (f : X → Y) (xs : List X) (i : ℕ) (x : X) (top total w new : ℕ) → i < length xs → x ≡ get_or xs i x → w ≡ min (m (f x)) top → new ≡ min (total + w) top
    → total ≡ min (sum_by m (map f (take i xs))) top → new ≡ min (sum_by m (map f (take (i + 1) xs))) top
total_next m f xs i x top total w new below is weighed added so_far =
    let more : sum_by m (map f (take (i + 1) xs)) ≡ sum_by m (map f (take i xs)) + (0 + m (f x)) =
    ap (sum_by m) (map_more f xs i x below) ∙ sum_by-append m (map f (take i xs)) (f (get_or xs i x) ∷ []) ∙ ap (λ y. sum_by m (map f (take i xs)) + (0 + m (f y))) (sym is) in
    omega arith

pub total_all : {X Y : Type 0} (m : Y → ℕ) (f : X → Y) (xs : List X) (i total top : ℕ) → length xs ≤ i → total ≡ min (sum_by m (map f (take i xs))) top → total ≡ min (sum_by m (map f xs)) top
total_all m f xs i total top past so_far = so_far ∙ ap (λ ys. min (sum_by m (map f ys)) top) (take_all i xs past)

pub one_fits : (b : Bool) (w top : ℕ) → 0 < top → w ≡ cond b 1 0 → w ≡ min (cond b 1 0) top
one_fits true w top some e = omega arith
one_fits false w top some e = omega arith

first_of_sum : {X : Type 0} (m : X → ℕ) (x : X) (xs : List X) → sum_by m (x ∷ xs) ≡ m x + sum_by m xs
first_of_sum m x xs = sum_by-cons m x xs

pub length_flat : {X Y : Type 0} (f : X → List Y) (xs : List X) → length (flat_map f xs) ≡ sum_by (λ x. length (f x)) xs
length_flat f [] = refl
length_flat f (x ∷ xs) = length-append (f x) (flat_map f xs) ∙ ap (λ n. length (f x) + n) (length_flat f xs) ∙ sym (first_of_sum (λ y. length (f y)) x xs)

pub count_flat : {X Y : Type 0} (p : Y → Bool) (f : X → List Y) (xs : List X) → count_by p (flat_map f xs) ≡ sum_by (λ x. count_by p (f x)) xs
count_flat p f [] = refl
count_flat p f (x ∷ xs) = sum_by-append (λ y. cond (p y) 1 0) (f x) (flat_map f xs) ∙ ap (λ n. count_by p (f x) + n) (count_flat p f xs) ∙ sym (first_of_sum (λ y. count_by p (f y)) x xs)
