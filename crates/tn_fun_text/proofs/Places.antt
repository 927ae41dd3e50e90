-- The terms of a vector by their places.
use Rattle.std.proofs.Common.{◌≡◌, ◌≢◌, ◌∙◌, ℕ, ◌-◌, ◌<◌, List, [], ◌∷◌, length, get_or, drop, ◌==◌, Bool, true, false, refl, sym, ap, ap₂, subst, eqb-true, arith}
use Rattle.std.proofs.lemmas.List.{length-drop}
use Rattle.def_term.specs.Tree.{Tree, Trees, none, more, count}
use Rattle.tn_term.specs.declared.term.Term.{Term}
use Rattle.tn_term.specs.Views.{tree_of, trees_of}
use Rattle.tn_term.proofs.Trees.{here, past, count_seen}

-- whether there are some, by a test
pub not_empty : (b : Bool) (n m : ℕ) → b ≡ (n == 0) → b ≡ false → n ≡ m → m ≢ 0
not_empty b n m is so same e = let zero : (n == 0) ≡ true = ap (λ k. k == 0) (same ∙ e) in cc

pub empty : (b : Bool) (n m : ℕ) → b ≡ (n == 0) → b ≡ true → n ≡ m → m ≡ 0
empty b n m is so same = sym same ∙ eqb-true n 0 (sym is ∙ so)

-- the first is this tree
pub first_is : {A : Type 0} (xs : List (Term A)) (x : Term A) (t : Tree) → 0 < length xs → x ≡ get_or xs 0 x → tree_of x ≡ t → trees_of xs ≡ more t (trees_of (drop 1 xs))
first_is xs x t some is e = here tree_of xs 0 x some is ∙ ap (λ u. more u (trees_of (drop 1 xs))) e

-- the only one is
pub alone_is : {A : Type 0} (xs : List (Term A)) (x : Term A) (t : Tree) → length xs ≡ 1 → x ≡ get_or xs 0 x → tree_of x ≡ t → trees_of xs ≡ more t none
alone_is xs x t one is e = first_is xs x t (omega (arith, one)) is e ∙ ap (more t) (past tree_of xs 1 (omega (arith, one)))

-- the only one after the first is
pub second_is : {A : Type 0} (xs : List (Term A)) (x : Term A) (t : Tree) → length xs ≡ 2 → x ≡ get_or xs 1 x → tree_of x ≡ t → trees_of (drop 1 xs) ≡ more t none
second_is xs x t two is e = here tree_of xs 1 x (omega (arith, two)) is ∙ ap₂ more e (past tree_of xs 2 (omega (arith, two)))

-- the two after the first
pub two_are : {A : Type 0} (xs : List (Term A)) (x y : Term A) → length xs ≡ 3 → x ≡ get_or xs 1 x → y ≡ get_or xs 2 y → trees_of (drop 1 xs) ≡ more (tree_of x) (more (tree_of y) none)
two_are xs x y three is js =
    here tree_of xs 1 x (omega (arith, three)) is
    ∙ ap (more (tree_of x)) (here tree_of xs 2 y (omega (arith, three)) js ∙ ap (more (tree_of y)) (past tree_of xs 3 (omega (arith, three))))

-- all three
pub three_are : {A : Type 0} (xs : List (Term A)) (x y z : Term A) (t u : Tree) → length xs ≡ 3 → x ≡ get_or xs 0 x → y ≡ get_or xs 1 y → z ≡ get_or xs 2 z → tree_of y ≡ t → tree_of z ≡ u
    → trees_of xs ≡ more (tree_of x) (more t (more u none))
three_are xs x y z t u three is js ks e f =
    here tree_of xs 0 x (omega (arith, three)) is ∙ ap (more (tree_of x)) (two_are xs y z three js ks ∙ ap₂ (λ a b. more a (more b none)) e f)

-- how many are after the first
pub counted : {A : Type 0} (xs : List (Term A)) (n : ℕ) → n ≡ length xs - 1 → n ≡ count (trees_of (drop 1 xs))
counted xs n e = e ∙ sym (length-drop 1 xs) ∙ sym (count_seen tree_of (drop 1 xs))

-- not one after the first
pub not_two : {A X : Type 0} (h : Trees → X) (v : X) → h none ≡ v → ((t u : Tree) (us : Trees) → h (more t (more u us)) ≡ v) → (xs : List (Term A)) → length xs ≢ 2 → h (trees_of (drop 1 xs)) ≡ v
not_two h v without several [] other = without
not_two h v without several (x ∷ []) other = without
not_two h v without several (x ∷ y ∷ []) other = absurd (other refl)
not_two h v without several (x ∷ y ∷ z ∷ zs) other = several (tree_of y) (tree_of z) (trees_of zs)

-- not one
pub not_one : {A X : Type 0} (h : Trees → X) (v : X) → h none ≡ v → ((t u : Tree) (us : Trees) → h (more t (more u us)) ≡ v) → (xs : List (Term A)) → length xs ≢ 1 → h (trees_of xs) ≡ v
not_one h v without several [] other = without
not_one h v without several (x ∷ []) other = absurd (other refl)
not_one h v without several (x ∷ y ∷ ys) other = several (tree_of x) (tree_of y) (trees_of ys)

-- the first is this tree, and there are more
pub crowd : {A : Type 0} (Holds : Trees → Type 0) (t : Tree) → ((u : Tree) (us : Trees) → Holds (more t (more u us))) → (xs : List (Term A)) (x : Term A) → 1 < length xs → x ≡ get_or xs 0 x → tree_of x ≡ t → Holds (trees_of xs)
crowd Holds t several [] x more_than is e = absurd (omega (arith, more_than))
crowd Holds t several (y ∷ []) x more_than is e = absurd (omega (arith, more_than))
crowd Holds t several (y ∷ z ∷ zs) x more_than is e = subst (λ u. Holds (more u (trees_of (z ∷ zs)))) (sym e ∙ ap tree_of is) (several (tree_of z) (trees_of zs))
