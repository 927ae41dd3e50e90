-- Elements of tuples and lists, by their places.
use Rattle.std.proofs.Common.{◌≡◌, ◌∙◌, ap, refl, ℕ, zero, suc, ◌+◌, ◌<◌, ◌≤◌, min, List, [], ◌∷◌, length, get_or, Some, None, false, ℤ, pos, nat_abs, ◌-ℤ◌, arith}
use Rattle.std.specs.Int.{w64, cast_signed, cast_unsigned}
use Rattle.std.specs.Int.RustNames.{FitsSigned}
use Rattle.std.specs.Int.Signed.{lt_z}
use Rattle.std.specs.Ordering.{nat_cmp}
use Rattle.std.specs.declared.cmp.Ordering.TheVariants.{Less, Greater}
use Rattle.std.proofs.lemmas.Bool.Decides.{nat_tests}
use Rattle.std.proofs.lemmas.Int.{ints}
use Rattle.def_term.specs.Tree.{Tree, Trees, none, more, count, depth, greatest_depth}
use Rattle.def_term.specs.Order.{trees_cmp}
use Rattle.def_spec.specs.Functions.{nth}
use Rattle.tn_term.proofs.Trees.{seen}

pub nth_seen : {X : Type 0} (f : X → Tree) (xs : List X) (n : ℕ) (x : X) → n < length xs → x ≡ get_or xs n x → Some (f x) ≡ nth (seen f xs) n
nth_seen f [] n x h e = absurd (omega arith)
nth_seen f (y ∷ ys) zero x h e = ap (λ z. Some (f z)) e
nth_seen f (y ∷ ys) (suc n) x h e = nth_seen f ys n x (omega arith) e

pub nth_past : (ts : Trees) (n : ℕ) → count ts ≤ n → None ≡ nth ts n
nth_past none n h = refl
nth_past (more t ts) zero h = absurd (omega arith)
nth_past (more t ts) (suc n) h = nth_past ts n (omega arith)

-- an element is no deeper than the deepest
pub nth_depth : (ts : Trees) (n : ℕ) (t : Tree) → Some t ≡ nth ts n → depth t ≤ greatest_depth ts
nth_depth none n t e = cc
nth_depth (more u us) zero t e =
    let same : t ≡ u = cc in
    omega (arith, ap depth same)
nth_depth (more u us) (suc n) t e = omega (arith, nth_depth us n t e)

-- the elements from a place on
unfoldable pub rest_from : ℕ → Trees → Trees
rest_from zero ts = ts
rest_from (suc n) none = none
rest_from (suc n) (more t ts) = rest_from n ts

rest_here_suc : (ts : Trees) (n : ℕ) (t : Tree) → Some t ≡ nth ts n → rest_from n ts ≡ more t (rest_from (suc n) ts)
unfolding rest_from
rest_here_suc none n t e = cc
rest_here_suc (more u us) zero t e = cc
rest_here_suc (more u us) (suc n) t e = rest_here_suc us n t e

pub rest_here : (ts : Trees) (n : ℕ) (t : Tree) → Some t ≡ nth ts n → rest_from n ts ≡ more t (rest_from (n + 1) ts)
rest_here ts n t e = rest_here_suc ts n t e ∙ ap (λ k. more t (rest_from k ts)) (omega arith)

pub rest_past : (ts : Trees) (n : ℕ) → count ts ≤ n → rest_from n ts ≡ none
unfolding rest_from
rest_past none zero h = refl
rest_past none (suc n) h = refl
rest_past (more t ts) zero h = absurd (omega arith)
rest_past (more t ts) (suc n) h = rest_past ts n (omega arith)

pub rest_of_all : (ts : Trees) → rest_from 0 ts ≡ ts
unfolding rest_from
rest_of_all ts = refl

cmp_more : (m n : ℕ) → nat_cmp m n ≡ nat_cmp (m + 1) (n + 1)
cmp_more m n = grind (arith, nat_tests)

cmp_less : (n : ℕ) → Less ≡ nat_cmp 0 (n + 1)
cmp_less n = grind (arith, nat_tests)

cmp_greater : (n : ℕ) → Greater ≡ nat_cmp (n + 1) 0
cmp_greater n = grind (arith, nat_tests)

-- where one of them ends, their sizes decide
pub rest_end : (ts us : Trees) (n : ℕ) → n ≡ min (count ts) (count us) → trees_cmp (rest_from n ts) (rest_from n us) ≡ nat_cmp (count ts) (count us)
unfolding rest_from
rest_end none none zero e = refl
rest_end none none (suc n) e = absurd (omega arith)
rest_end none (more u us) zero e = cmp_less (count us)
rest_end none (more u us) (suc n) e = absurd (omega arith)
rest_end (more t ts) none zero e = cmp_greater (count ts)
rest_end (more t ts) none (suc n) e = absurd (omega arith)
rest_end (more t ts) (more u us) zero e = absurd (omega arith)
rest_end (more t ts) (more u us) (suc n) e = rest_end ts us n (omega arith) ∙ cmp_more (count ts) (count us)

-- the place of the element with a number from 1 on
pub number_of_place : (z : ℤ) → FitsSigned w64 z → lt_z (cast_signed w64 (cast_unsigned w64 z)) (pos 1) ≡ false
    → z ≡ pos (suc (nat_abs (cast_signed w64 (cast_unsigned w64 (cast_signed w64 (cast_unsigned w64 z) -ℤ pos 1)))))
number_of_place z fits from_one = grind (arith, ints)
