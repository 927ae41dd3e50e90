-- How many lines two lists have in common at most: no steps have more, and which cells of the table it comes from.
use Rattle.std.proofs.Common.{◌≡◌, ◌≢◌, ◌∙◌, ap, ℕ, ◌≤◌, ◌<◌, ◌+◌, ◌-◌, suc, Bool, true, false, List, [], ◌∷◌, length, reverse, take, get_or, refl, arith}
use Rattle.std.proofs.lemmas.List.{reverse-append, take_more}
use Rattle.std.proofs.lemmas.Slice.Eq.{bytes_eq-Decides}
use Rattle.std.specs.Str.{bytes_eq}
use Rattle.def_alignment.specs.Alignments.{LineStep, in_both, in_first, in_second, Aligns, common_count}
use Rattle.tn_alignment.specs.Tables.{back, best, with_line, most_common}

-- the cells beside one, and the one at its corner
below_best : (a l c : ℕ) (s : Bool) → a ≤ best a l c s
below_best a l c true = omega arith
below_best a l c false = omega arith

left_best : (a l c : ℕ) (s : Bool) → l ≤ best a l c s
left_best a l c true = omega arith
left_best a l c false = omega arith

corner_best : (a l c : ℕ) (s : Bool) → s ≡ true → suc c ≤ best a l c s
corner_best a l c true e = omega arith
corner_best a l c false e = cc

best_within : (a l c : ℕ) (s : Bool) (n : ℕ) → a ≤ n → l ≤ n → suc c ≤ n → best a l c s ≤ n
best_within a l c true n h i j = omega arith
best_within a l c false n h i j = omega arith

-- a cell that isn't that below it and isn't the one after its corner is the one to its left
pub is_left : (a l c : ℕ) (s : Bool) → best a l c s ≢ a → (s ≡ true → best a l c s ≢ suc c) → best a l c s ≡ l
is_left a l c true not_below not_corner = let k = not_corner refl in omega arith
is_left a l c false not_below not_corner = omega arith

pub same_line : (x y : List ℕ) → x ≡ y → bytes_eq x y ≡ true
same_line x y e = grind (arith, bytes_eq-Decides x y)

pub true_line : (x y : List ℕ) → bytes_eq x y ≡ true → x ≡ y
true_line x y e = grind (arith, bytes_eq-Decides x y)

-- nothing is in common with no lines
pub none_empty : (xs : List (List ℕ)) → most_common xs [] ≡ 0
none_empty [] = refl
none_empty (x ∷ xs) = refl

-- it is at most the length of the first list
with_within : (x : List ℕ) (below : List (List ℕ) → ℕ) (n : ℕ) → ((ys : List (List ℕ)) → below ys ≤ n) → (ys : List (List ℕ)) → with_line x below ys ≤ suc n
with_within x below n h [] = omega arith
with_within x below n h (y ∷ ys) =
    best_within (below (y ∷ ys)) (with_line x below ys) (below ys) (bytes_eq x y) (suc n)
    (let k : below (y ∷ ys) ≤ n = h (y ∷ ys) in omega arith) (with_within x below n h ys) (let k : below ys ≤ n = h ys in omega arith)

pub common_within : (xs ys : List (List ℕ)) → most_common xs ys ≤ length xs
common_within [] ys = omega arith
common_within (x ∷ xs) ys = with_within x (most_common xs) (length xs) (common_within xs) ys

-- no steps that go through both have more
first_more : (x : List ℕ) (xs ys : List (List ℕ)) → most_common xs ys ≤ most_common (x ∷ xs) ys
first_more x xs [] = let e : most_common xs [] ≡ 0 = none_empty xs in omega arith
first_more x xs (y ∷ ys) = below_best (most_common xs (y ∷ ys)) (most_common (x ∷ xs) ys) (most_common xs ys) (bytes_eq x y)

second_more : (y : List ℕ) (xs ys : List (List ℕ)) → most_common xs ys ≤ most_common xs (y ∷ ys)
second_more y [] ys = omega arith
second_more y (x ∷ xs) ys = left_best (most_common xs (y ∷ ys)) (most_common (x ∷ xs) ys) (most_common xs ys) (bytes_eq x y)

both_more : (x y : List ℕ) (xs ys : List (List ℕ)) → x ≡ y → suc (most_common xs ys) ≤ most_common (x ∷ xs) (y ∷ ys)
both_more x y xs ys e = corner_best (most_common xs (y ∷ ys)) (most_common (x ∷ xs) ys) (most_common xs ys) (bytes_eq x y) (same_line x y e)

pub at_most : (t : List LineStep) (xs ys : List (List ℕ)) → Aligns t xs ys → common_count t ≤ most_common xs ys
at_most [] xs ys h = omega arith
at_most (in_both ∷ t) [] ys h = absurd h
at_most (in_both ∷ t) (x ∷ xs) [] h = absurd h
at_most (in_both ∷ t) (x ∷ xs) (y ∷ ys) h = omega (arith, at_most t xs ys h.1, both_more x y xs ys h.0)
at_most (in_first ∷ t) [] ys h = absurd h
at_most (in_first ∷ t) (x ∷ xs) ys h = omega (arith, at_most t xs ys h, first_more x xs ys)
at_most (in_second ∷ t) xs [] h = absurd h
at_most (in_second ∷ t) xs (y ∷ ys) h = omega (arith, at_most t xs ys h, second_more y xs ys)

-- ---- last lines

-- one more
pub back_more : (ls : List (List ℕ)) (n : ℕ) (d : List ℕ) → n < length ls → back ls (n + 1) ≡ get_or ls n d ∷ back ls n
back_more ls n d h = ap reverse (take_more ls n d h) ∙ reverse-append (take n ls) (get_or ls n d ∷ [])

pub back_before : (ls : List (List ℕ)) (n : ℕ) (d : List ℕ) → 0 < n → n ≤ length ls → back ls n ≡ get_or ls (n - 1) d ∷ back ls (n - 1)
back_before ls n d pos h =
    let e : n ≡ (n - 1) + 1 = omega arith in
    let k : n - 1 < length ls = omega arith in
    ap (back ls) e ∙ back_more ls (n - 1) d k
