-- Trees of lists, seen from the front.
use Rattle.std.proofs.Common.{◌≡◌, ℕ, zero, suc, ◌+◌, ◌<◌, ◌≤◌, min, List, [], ◌∷◌, length, get_or, drop, map, refl, ap, ap₂, sym, ◌∙◌, arith, ◌↔◌}
use Rattle.std.proofs.lemmas.List.{drop_more}
use Rattle.std.proofs.lemmas.Bool.Decides.{nat_tests}
use Rattle.std.specs.Ordering.{nat_cmp, ordering_then}
use Rattle.std.specs.declared.cmp.Ordering.{Ordering}
use Rattle.std.specs.declared.cmp.Ordering.TheVariants.{Less, Equal, Greater}
use Rattle.def_term.specs.Tree.{Tree, tuple, Trees, none, more, of_elements, count}
use Rattle.def_term.specs.Order.{tree_cmp, trees_cmp}

abbrev pub seen : {X : Type 0} → (X → Tree) → List X → Trees
seen f xs = of_elements (map f xs)

pub count_seen : {X : Type 0} (f : X → Tree) (xs : List X) → count (seen f xs) ≡ length xs
count_seen f [] = refl
count_seen f (x ∷ xs) = omega (arith, count_seen f xs)

pub same_length : {X Y : Type 0} (f : X → Tree) (h : Y → Tree) (xs : List X) (ys : List Y) → seen f xs ≡ seen h ys → length xs ≡ length ys
same_length f h xs ys e = sym (count_seen f xs) ∙ ap count e ∙ count_seen h ys

-- the element at i, and those after it
pub here : {X : Type 0} (f : X → Tree) (xs : List X) (i : ℕ) (x : X) → i < length xs → x ≡ get_or xs i x → seen f (drop i xs) ≡ more (f x) (seen f (drop (i + 1) xs))
here f xs i x below is = ap (seen f) (drop_more xs i x below) ∙ ap (λ z. more (f z) (seen f (drop (i + 1) xs))) (sym is)

pub past : {X : Type 0} (f : X → Tree) (xs : List X) (i : ℕ) → length xs ≤ i → seen f (drop i xs) ≡ none
past f [] zero h = refl
past f [] (suc i) h = refl
past f (x ∷ xs) zero h = absurd (omega arith)
past f (x ∷ xs) (suc i) h = past f xs i (omega arith)

pub cmp_here : {X Y : Type 0} (f : X → Tree) (h : Y → Tree) (xs : List X) (ys : List Y) (i : ℕ) (x : X) (y : Y)
    → i < length xs → i < length ys → x ≡ get_or xs i x → y ≡ get_or ys i y
    → trees_cmp (seen f (drop i xs)) (seen h (drop i ys)) ≡ ordering_then (tree_cmp (f x) (h y)) (trees_cmp (seen f (drop (i + 1) xs)) (seen h (drop (i + 1) ys)))
cmp_here f h xs ys i x y p q is js = ap₂ trees_cmp (here f xs i x p is) (here h ys i y q js)

cmp_suc : (m n : ℕ) → nat_cmp m n ≡ nat_cmp (suc m) (suc n)
cmp_suc m n = grind (arith, nat_tests)

cmp_less : (n : ℕ) → Less ≡ nat_cmp 0 (suc n)
cmp_less n = grind (arith, nat_tests)

cmp_greater : (n : ℕ) → Greater ≡ nat_cmp (suc n) 0
cmp_greater n = grind (arith, nat_tests)

-- where one of them ends, their lengths decide
pub cmp_end : {X Y : Type 0} (f : X → Tree) (h : Y → Tree) (xs : List X) (ys : List Y) (i : ℕ)
    → i ≡ min (length xs) (length ys) → trees_cmp (seen f (drop i xs)) (seen h (drop i ys)) ≡ nat_cmp (length xs) (length ys)
cmp_end f h [] [] zero e = refl
cmp_end f h [] [] (suc i) e = absurd (omega arith)
cmp_end f h [] (y ∷ ys) zero e = cmp_less (length ys)
cmp_end f h [] (y ∷ ys) (suc i) e = absurd (omega arith)
cmp_end f h (x ∷ xs) [] zero e = cmp_greater (length xs)
cmp_end f h (x ∷ xs) [] (suc i) e = absurd (omega arith)
cmp_end f h (x ∷ xs) (y ∷ ys) zero e = absurd (omega arith)
cmp_end f h (x ∷ xs) (y ∷ ys) (suc i) e = cmp_end f h xs ys i (omega arith) ∙ cmp_suc (length xs) (length ys)

pub tuple_order : {X Y : Type 0} (f : X → Tree) (h : Y → Tree) (xs : List X) (ys : List Y)
    → tree_cmp (tuple (seen f xs)) (tuple (seen h ys)) ≡ ordering_then (nat_cmp (length xs) (length ys)) (trees_cmp (seen f xs) (seen h ys))
tuple_order f h xs ys = ap₂ (λ m n. ordering_then (nat_cmp m n) (trees_cmp (seen f xs) (seen h ys))) (count_seen f xs) (count_seen h ys)

-- one more pair of elements that are the same
pub same_here : (t u : Tree) (ts us : Trees) → t ≡ u → (more t ts ≡ more u us) ↔ (ts ≡ us)
same_here t u ts us e = (λ h. cc, λ h. cc)

pub same_step : {X Y : Type 0} (f : X → Tree) (h : Y → Tree) (xs : List X) (ys : List Y) (i : ℕ) (x : X) (y : Y) (All : Type 0)
    → i < length xs → i < length ys → x ≡ get_or xs i x → y ≡ get_or ys i y → f x ≡ h y
    → (seen f (drop i xs) ≡ seen h (drop i ys)) ↔ All → (seen f (drop (i + 1) xs) ≡ seen h (drop (i + 1) ys)) ↔ All
same_step f h xs ys i x y All p q is js e so_far =
    let a = here f xs i x p is in
    let b = here h ys i y q js in
    (λ rest. so_far.0 (a ∙ ap₂ more e rest ∙ sym b), λ all. let c : more (f x) (seen f (drop (i + 1) xs)) ≡ more (h y) (seen h (drop (i + 1) ys)) = sym a ∙ so_far.1 all ∙ b in cc)

pub differs_here : {X Y : Type 0} (f : X → Tree) (h : Y → Tree) (xs : List X) (ys : List Y) (i : ℕ) (x : X) (y : Y)
    → i < length xs → i < length ys → x ≡ get_or xs i x → y ≡ get_or ys i y
    → seen f (drop i xs) ≡ seen h (drop i ys) → f x ≡ h y
differs_here f h xs ys i x y p q is js e =
    let c : more (f x) (seen f (drop (i + 1) xs)) ≡ more (h y) (seen h (drop (i + 1) ys)) = sym (here f xs i x p is) ∙ e ∙ here h ys i y q js in cc

pub then_unequal : (r s : Ordering) → (r ≡ Equal → ⊥) → r ≡ ordering_then r s
then_unequal Less s h = refl
then_unequal Equal s h = absurd (h refl)
then_unequal Greater s h = refl
