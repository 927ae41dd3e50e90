-- What two names have after letters with which both begin.
use Rattle.std.proofs.Common.{◌≡◌, ◌<◌, ◌≤◌, ◌⊎◌, inl, inr, ℕ, zero, suc, true, false, if◌then◌else◌, [], ◌∷◌, length, drop, get_or, refl, ap, arith}
use Rattle.std.specs.Prelude.{◌==◌}
use Rattle.def_term.specs.Names.{Name}
use Rattle.def_explain.specs.NearNames.{after_common}

-- one more letter with which both begin
pub one_more : (i : ℕ) (s t : Name) → i < length s → i < length t → (get_or s i 0 == get_or t i 0) ≡ true → after_common (drop i s) (drop i t) ≡ after_common (drop (suc i) s) (drop (suc i) t)
one_more i [] t h k e = absurd (omega arith)
one_more i (x ∷ s) [] h k e = absurd (omega arith)
one_more zero (x ∷ s) (y ∷ t) h k e = ap (λ b. if b then after_common s t else (x ∷ s, y ∷ t)) e
one_more (suc i) (x ∷ s) (y ∷ t) h k e = one_more i s t (omega arith) (omega arith) e

-- the next letters are different
pub differ_next : (i : ℕ) (s t : Name) → i < length s → i < length t → (get_or s i 0 == get_or t i 0) ≡ false → after_common (drop i s) (drop i t) ≡ (drop i s, drop i t)
differ_next i [] t h k e = absurd (omega arith)
differ_next i (x ∷ s) [] h k e = absurd (omega arith)
differ_next zero (x ∷ s) (y ∷ t) h k e = ap (λ b. if b then after_common s t else (x ∷ s, y ∷ t)) e
differ_next (suc i) (x ∷ s) (y ∷ t) h k e = differ_next i s t (omega arith) (omega arith) e

-- one of them has no more letters
pub one_ends : (i : ℕ) (s t : Name) → (length s ≤ i) ⊎ (length t ≤ i) → after_common (drop i s) (drop i t) ≡ (drop i s, drop i t)
one_ends zero [] t h = refl
one_ends (suc i) [] t h = refl
one_ends zero (x ∷ s) [] h = refl
one_ends (suc i) (x ∷ s) [] h = nothing_left (drop i s)
  where
    nothing_left : (r : Name) → after_common r [] ≡ (r, [])
    nothing_left [] = refl
    nothing_left (y ∷ r) = refl
one_ends zero (x ∷ s) (y ∷ t) (inl h) = absurd (omega arith)
one_ends zero (x ∷ s) (y ∷ t) (inr h) = absurd (omega arith)
one_ends (suc i) (x ∷ s) (y ∷ t) (inl h) = one_ends i s t (inl (omega arith))
one_ends (suc i) (x ∷ s) (y ∷ t) (inr h) = one_ends i s t (inr (omega arith))
