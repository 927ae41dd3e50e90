-- Sums over views of which one has changed.
use Rattle.std.proofs.Common.{◌≡◌, ◌≢◌, ℕ, zero, suc, ◌+◌, ◌≤◌, ◌<◌, List, [], ◌∷◌, Some, slice_get, slice_set, refl, ap, arith}
use Rattle.std.specs.Option.{unwrap_or}
use Rattle.std.specs.List.{sum_by}
use Rattle.std.proofs.lemmas.List.Sums.{sum_by-cons}
use Rattle.std.proofs.lemmas.Option.{none-some}

pub some_is : {A : Type 0} (x y : A) → Some x ≡ Some y → x ≡ y
some_is x y e = ap (λ o. unwrap_or o x) e

-- the sum after one view has changed
pub sum-changed : (f : List ℕ → ℕ) (views : List (List ℕ)) (n : ℕ) (v w : List ℕ) → slice_get views n ≡ Some v → sum_by f (slice_set views n w) + f v ≡ sum_by f views + f w
sum-changed f [] n v w at = absurd (none-some v at)
sum-changed f (u ∷ us) zero v w at =
    let e : f u ≡ f v = ap f (some_is u v at) in
    omega (arith, sum_by-cons f u us, sum_by-cons f w us, e)
sum-changed f (u ∷ us) (suc n) v w at = omega (arith, sum_by-cons f u us, sum_by-cons f u (slice_set us n w), sum-changed f us n v w at)

-- a view is part of the sum
pub sum-has : (f : List ℕ → ℕ) (views : List (List ℕ)) (n : ℕ) (v : List ℕ) → slice_get views n ≡ Some v → f v ≤ sum_by f views
sum-has f [] n v at = absurd (none-some v at)
sum-has f (u ∷ us) zero v at = omega (arith, sum_by-cons f u us, ap f (some_is u v at))
sum-has f (u ∷ us) (suc n) v at = omega (arith, sum_by-cons f u us, sum-has f us n v at)

-- two views that have something where the sum is at most one are the same
pub only-one : (f : List ℕ → ℕ) (views : List (List ℕ)) (m n : ℕ) (v w : List ℕ) → sum_by f views ≤ 1 → slice_get views m ≡ Some v → slice_get views n ≡ Some w → 0 < f v → 0 < f w → m ≡ n
only-one f [] m n v w most at ah p q = absurd (none-some v at)
only-one f (u ∷ us) zero zero v w most at ah p q = refl
only-one f (u ∷ us) zero (suc n) v w most at ah p q = absurd (omega (arith, most, sum_by-cons f u us, sum-has f us n w ah, p, q, ap f (some_is u v at)))
only-one f (u ∷ us) (suc m) zero v w most at ah p q = absurd (omega (arith, most, sum_by-cons f u us, sum-has f us m v at, p, q, ap f (some_is u w ah)))
only-one f (u ∷ us) (suc m) (suc n) v w most at ah p q = ap (λ k. suc k) (only-one f us m n v w (omega (arith, most, sum_by-cons f u us)) at ah p q)

-- the other places are as they were
pub get-set-other : {A : Type 0} (xs : List A) (n m : ℕ) (x : A) → m ≢ n → slice_get (slice_set xs n x) m ≡ slice_get xs m
get-set-other [] n m x ne = refl
get-set-other (y ∷ ys) zero zero x ne = absurd (ne refl)
get-set-other (y ∷ ys) zero (suc m) x ne = refl
get-set-other (y ∷ ys) (suc n) zero x ne = refl
get-set-other (y ∷ ys) (suc n) (suc m) x ne = get-set-other ys n m x (λ e. ne (ap (λ k. suc k) e))
