-- The tests of numbers and lists, from what holds of each or of one.
use Rattle.std.proofs.Common.{◌≡◌, ℕ, zero, suc, ◌<◌, List, [], ◌∷◌, refl, subst, arith, Bool, true, ⊎_elim}
use Rattle.std.proofs.lemmas.Bool.{cases_lt, and_from, or_left, or_right}
use Rattle.def_machine.specs.Validity.{Each}
use Rattle.def_machine.specs.Acceptance.{all_below, some_below, all_of_them}

pub below-all : (n : ℕ) (f : ℕ → Bool) → ((j : ℕ) → j < n → f j ≡ true) → all_below n f ≡ true
below-all zero f h = refl
below-all (suc n) f h = and_from (all_below n f) (f n) (below-all n f (λ j l. h j (omega (arith, l)))) (h n (omega arith))

pub below-some : (n : ℕ) (f : ℕ → Bool) (j : ℕ) → j < n → f j ≡ true → some_below n f ≡ true
below-some zero f j l h = absurd (omega (arith, l))
below-some (suc n) f j l h = ⊎_elim
    (λ lt. or_left (some_below n f) (f n) (below-some n f j lt h))
    (λ le. let e : j ≡ n = omega (arith, l, le) in or_right (some_below n f) (f n) (subst (λ x. f x ≡ true) e h))
    (cases_lt j n)

pub each-tested : {X : Type 0} (P : X → Type 0) (f : X → Bool) (xs : List X) → ((x : X) → P x → f x ≡ true) → Each P xs → all_of_them f xs ≡ true
each-tested P f [] on h = refl
each-tested P f (x ∷ xs) on h = and_from (f x) (all_of_them f xs) (on x h.0) (each-tested P f xs on h.1)

pub each-on : {X : Type 0} (P Q : X → Type 0) (xs : List X) → ((x : X) → P x → Q x) → Each P xs → Each Q xs
each-on P Q [] on h = tt
each-on P Q (x ∷ xs) on h = (on x h.0, each-on P Q xs on h.1)
