-- Tests of numbers, and of both of two.
use Rattle.std.proofs.Common.{◌≡◌, ◌≤◌, ◌-◌, ℕ, Bool, true, false, not, ◌&&◌, refl, arith}
use Rattle.std.specs.Prelude.{nat_le, ◌==◌}
use Rattle.std.proofs.lemmas.Bool.Decides.{nat_tests}

pub large_if : (n : ℕ) → 100 ≤ n → nat_le 100 n ≡ true
large_if n h = grind (arith, nat_tests, h)

pub big_if : (n : ℕ) → nat_le 100 n ≡ true → 100 ≤ n
big_if n h = grind (arith, nat_tests, h)

pub same_if : (a b : ℕ) → (a == b) ≡ true → a ≡ b
same_if a b h = grind (arith, nat_tests, h)

pub other_if : (a b : ℕ) → (a == b) ≡ false → a ≡ b → ⊥
other_if a b h e = grind (arith, nat_tests, h, e)

pub not_same : (a b : ℕ) → (a ≡ b → ⊥) → (a == b) ≡ false
not_same a b other = go (a == b) refl
  where
    go : (t : Bool) → (a == b) ≡ t → (a == b) ≡ false
    go true e = absurd (other (same_if a b e))
    go false e = e

-- two pids stand at different places
pub far_if : (n m : ℕ) → 100 ≤ n → 100 ≤ m → (m ≡ n → ⊥) → n - 100 ≡ m - 100 → ⊥
far_if n m big large other e = other (omega (arith, big, large, e))

pub both_true : (a b : Bool) → (a && b) ≡ true → (a ≡ true) × (b ≡ true)
both_true true b h = (refl, h)
both_true false b h = absurd (let k : false ≡ true = h in cc)

pub not_true : (b : Bool) → not b ≡ true → b ≡ false
not_true true h = absurd (let k : false ≡ true = h in cc)
not_true false h = refl
