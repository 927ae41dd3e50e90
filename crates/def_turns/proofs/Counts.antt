-- How often a slot is in a list.
use Rattle.std.proofs.Common.{◌≡◌, ℕ, zero, suc, ◌+◌, ◌≤◌, ◌<◌, Bool, true, false, not, cond, nat_eq, nat_lt, nat_le, ◌||◌, ◌&&◌, List, [], ◌∷◌, ◌++◌, sym, refl, ap, ◌∙◌, arith}
use Rattle.std.proofs.lemmas.List.Sums.{sum_by-append, sum_by-cons}
use Rattle.std.proofs.lemmas.Bool.Decides.{Decides-eqb, nat_tests}
use Rattle.def_turns.specs.Slots.{is_slot, numbers_from, all_slots}
use Rattle.def_turns.specs.Turns.{times, list_without}
use Rattle.def_turns.specs.Laws.{once}

-- one where a test passes
abbrev pub tick : Bool → ℕ
tick b = cond b 1 0

pub times-append : (x : ℕ) (xs ys : List ℕ) → times x (xs ++ ys) ≡ times x xs + times x ys
times-append x xs ys = sum_by-append _ xs ys

pub times-cons : (x y : ℕ) (ys : List ℕ) → times x (y ∷ ys) ≡ tick (nat_eq y x) + times x ys
times-cons x y ys = sum_by-cons _ y ys

pub times-one : (x y : ℕ) → times x (y ∷ []) ≡ tick (nat_eq y x)
times-one x y = omega (arith, times-cons x y [])

pub equal-self : (x : ℕ) → nat_eq x x ≡ true
equal-self x = (Decides-eqb x x).1 refl

cond-suc : (b : Bool) (n : ℕ) → cond b (1 + n) 0 ≡ tick b + cond b n 0
cond-suc true n = omega arith
cond-suc false n = omega arith

cond-zero : (b : Bool) → cond {A = ℕ} b 0 0 ≡ 0
cond-zero true = refl
cond-zero false = refl

without-step : (x y z : ℕ) (v : List ℕ) (b : Bool) → nat_eq z x ≡ b → times y (list_without x v) + cond (nat_eq x y) (times x v) 0 ≡ times y v → times y (list_without x (z ∷ v)) + cond (nat_eq x y) (times x (z ∷ v)) 0 ≡ times y (z ∷ v)
without-step x y z v true e ih =
    let zx : z ≡ x = (Decides-eqb z x).0 e in
    let w : list_without x (z ∷ v) ≡ list_without x v = ap (λ b. cond (not b) (z ∷ list_without x v) (list_without x v)) e in
    let t : times x (z ∷ v) ≡ 1 + times x v = times-cons x z v ∙ ap (λ b. tick b + times x v) e in
    let c : cond (nat_eq x y) (times x (z ∷ v)) 0 ≡ tick (nat_eq x y) + cond (nat_eq x y) (times x v) 0 = ap (λ n. cond (nat_eq x y) n 0) t ∙ cond-suc (nat_eq x y) (times x v) in
    let h : tick (nat_eq z y) ≡ tick (nat_eq x y) = ap (λ k. tick (nat_eq k y)) zx in
    omega (arith, ih, c, h, times-cons y z v, ap (λ l. times y l) w)
without-step x y z v false e ih =
    let w : list_without x (z ∷ v) ≡ z ∷ list_without x v = ap (λ b. cond (not b) (z ∷ list_without x v) (list_without x v)) e in
    let t : times x (z ∷ v) ≡ times x v = times-cons x z v ∙ (ap (λ b. tick b + times x v) e ∙ omega arith) in
    omega (arith, ih, ap (λ n. cond (nat_eq x y) n 0) t, times-cons y z v, times-cons y z (list_without x v), ap (λ l. times y l) w)

-- what a view has without a slot
pub times-without : (x y : ℕ) (v : List ℕ) → times y (list_without x v) + cond (nat_eq x y) (times x v) 0 ≡ times y v
times-without x y [] = omega (arith, cond-zero (nat_eq x y))
times-without x y (z ∷ v) = without-step x y z v (nat_eq z x) refl (times-without x y v)

-- ---- all slots

pub times-numbers-low : (first n x : ℕ) → x < first → times x (numbers_from first n) ≡ 0
times-numbers-low first zero x lt = refl
times-numbers-low first (suc n) x lt =
    let ne : nat_eq first x ≡ false = grind (arith, nat_tests) in
    omega (arith, times-cons x first (numbers_from (first + 1) n), ap (λ b. tick b) ne, times-numbers-low (first + 1) n x (omega arith))

-- a number of so many is among them once
numbers-step : (first n x : ℕ) (b : Bool) → nat_eq first x ≡ b → times x (numbers_from (first + 1) n) ≡ tick (nat_le (first + 1) x && nat_lt x (first + 1 + n)) → times x (numbers_from first (suc n)) ≡ tick (nat_le first x && nat_lt x (first + suc n))
numbers-step first n x true e ih =
    let is : first ≡ x = (Decides-eqb first x).0 e in
    let yes : (nat_le first x && nat_lt x (first + suc n)) ≡ true = grind (arith, nat_tests) in
    omega (arith, times-cons x first (numbers_from (first + 1) n), ap (λ b. tick b) e, times-numbers-low (first + 1) n x (omega (arith, is)), ap (λ b. tick b) yes)
numbers-step first n x false e ih =
    let same : (nat_le (first + 1) x && nat_lt x (first + 1 + n)) ≡ (nat_le first x && nat_lt x (first + suc n)) = grind (arith, nat_tests) in
    omega (arith, times-cons x first (numbers_from (first + 1) n), ap (λ b. tick b) e, ih, ap (λ b. tick b) same)

none-low : (first x : ℕ) → (nat_le first x && nat_lt x (first + 0)) ≡ false
none-low first x = grind (arith, nat_tests)

pub times-numbers : (first n x : ℕ) → times x (numbers_from first n) ≡ tick (nat_le first x && nat_lt x (first + n))
times-numbers first zero x = sym (ap (λ b. tick b) (none-low first x))
times-numbers first (suc n) x = numbers-step first n x (nat_eq first x) refl (times-numbers (first + 1) n x)

slots-step : (n x : ℕ) (b : Bool) → nat_eq 0 x ≡ b → times x (0 ∷ numbers_from 100 n) ≡ tick (nat_eq x 0 || (nat_le 100 x && nat_lt x (100 + n)))
slots-step n x true e =
    let is : 0 ≡ x = (Decides-eqb 0 x).0 e in
    let yes : (nat_eq x 0 || (nat_le 100 x && nat_lt x (100 + n))) ≡ true = grind (arith, nat_tests) in
    omega (arith, times-cons x 0 (numbers_from 100 n), ap (λ b. tick b) e, times-numbers-low 100 n x (omega (arith, is)), ap (λ b. tick b) yes)
slots-step n x false e =
    let same : (nat_eq x 0 || (nat_le 100 x && nat_lt x (100 + n))) ≡ (nat_le 100 x && nat_lt x (100 + n)) = grind (arith, nat_tests) in
    omega (arith, times-cons x 0 (numbers_from 100 n), ap (λ b. tick b) e, times-numbers 100 n x, ap (λ b. tick b) same)

slots-so-many : (n x : ℕ) → times x (0 ∷ numbers_from 100 n) ≡ tick (nat_eq x 0 || (nat_le 100 x && nat_lt x (100 + n)))
slots-so-many n x = slots-step n x (nat_eq 0 x) refl

pub each_once : (x : ℕ) → times x all_slots ≡ once x
unfolding all_slots
each_once x = slots-so-many 64 x

tick-most : (b : Bool) → tick b ≤ 1
tick-most true = omega arith
tick-most false = omega arith

pub once-most : (x : ℕ) → once x ≤ 1
once-most x = tick-most (is_slot x)
