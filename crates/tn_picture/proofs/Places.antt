-- The first place of what is seen in another way, and one more process of a pass.
use Rattle.std.proofs.Common.{◌≡◌, ℕ, suc, ◌+◌, ◌-◌, ◌<◌, nat_lt, Bool, not, cond, List, [], ◌∷◌, ◌++◌, length, map, take, Some, None, refl, ap, ap₂, sym, ◌∙◌, append_assoc, arith}
use Rattle.std.specs.List.{position, prefix_len}
use Rattle.std.proofs.lemmas.List.{map-append, length-map, take-map}
use Rattle.def_run.specs.Round.{pass_from}

prefix-seen : {X Y : Type 0} (v : X → Y) (test : Y → Bool) (xs : List X) → prefix_len (λ x. not (test (v x))) xs ≡ prefix_len (λ y. not (test y)) (map v xs)
prefix-seen v test [] = refl
prefix-seen v test (x ∷ xs) = ap (λ n. cond (not (test (v x))) (1 + n) 0) (prefix-seen v test xs)

pub position-seen : {X Y : Type 0} (v : X → Y) (test : Y → Bool) (xs : List X) → position (λ x. test (v x)) xs ≡ position test (map v xs)
position-seen v test xs = ap₂ (λ k n. cond (nat_lt k n) (Some k) None) (prefix-seen v test xs) (sym (length-map xs v))

pub pass-next : (end n : ℕ) → n < end → pass_from (end - n) n ≡ n ∷ pass_from (end - (n + 1)) (n + 1)
pass-next end n h =
    let e : end - n ≡ suc (end - (n + 1)) = omega arith in
    ap (λ k. pass_from k n) e

pub one-more : {X Y : Type 0} (v : X → Y) (xs : List X) (x : X) (ys : List Y) → map v (xs ++ x ∷ []) ++ ys ≡ map v xs ++ v x ∷ ys
one-more v xs x ys = ap (λ l. l ++ ys) (map-append v xs (x ∷ [])) ∙ append_assoc (map v xs) (v x ∷ []) ys

pub seen_count : {X Y : Type 0} (v : X → Y) (xs : List X) → length (map v xs) ≡ length xs
seen_count v xs = length-map xs v

pub seen_front : {X Y : Type 0} (v : X → Y) (n : ℕ) (xs : List X) → take n (map v xs) ≡ map v (take n xs)
seen_front v n xs = take-map v n xs
