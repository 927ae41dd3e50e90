-- The front of a list.
use Rattle.std.proofs.Common.{◌≡◌, ◌≤◌, ◌<◌, ℕ, List, length, take, min, arith, inl, inr}
use Rattle.std.proofs.lemmas.List.{length-take, take_all, length-take-le}
use Rattle.std.proofs.Math.Nat.{min-le_right}
use Rattle.std.proofs.lemmas.Bool.{cases_lt}

pub whole_front : {X : Type 0} (n : ℕ) (xs : List X) → length (take n xs) < n → take n xs ≡ xs
whole_front n xs h =
    elim (cases_lt (length xs) n) [
      | inl short ↦ take_all n xs (let few : length xs ≤ n = omega arith in few)
      | inr long ↦ let full : length (take n xs) ≡ n = length-take-le n xs long in absurd (omega (arith, full))
    ]

pub longer_than_front : {X : Type 0} (n : ℕ) (xs : List X) → n ≤ length (take n xs) → n ≤ length xs
longer_than_front n xs h =
    let same : length (take n xs) ≡ min n (length xs) = length-take n xs in
    let right : min n (length xs) ≤ length xs = min-le_right n (length xs) in
    omega (arith, same, right)
