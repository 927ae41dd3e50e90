-- Lists of places, the first of which are set.
use Rattle.std.proofs.Common.{◌≡◌, ℕ, zero, suc, ◌+◌, ◌-◌, ◌∷◌, ◌++◌, replicate, set, refl, ap, sym, ◌∙◌, ◌<◌, arith}

one_set : {X : Type 0} (x y : X) (i m : ℕ) → set (replicate i x ++ replicate (suc m) y) i x ≡ replicate (suc i) x ++ replicate m y
one_set x y zero m = refl
one_set x y (suc i) m = ap (λ zs. x ∷ zs) (one_set x y i m)

-- one more place is set
pub one_more_set : {X : Type 0} (x y : X) (n i : ℕ) → i < n → set (replicate i x ++ replicate (n - i) y) i x ≡ replicate (i + 1) x ++ replicate (n - (i + 1)) y
one_more_set x y n i h =
    let left : n - i ≡ suc (n - (i + 1)) = omega arith in
    let next : i + 1 ≡ suc i = omega arith in
    ap (λ k. set (replicate i x ++ replicate k y) i x) left ∙ one_set x y i (n - (i + 1)) ∙ ap (λ k. replicate k x ++ replicate (n - (i + 1)) y) (sym next)
