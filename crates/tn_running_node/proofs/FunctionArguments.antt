-- Arguments of a function command that a running node takes.
use Rattle.std.proofs.Common.{◌≡◌, ◌≢◌, ◌<◌, ◌+◌, ◌&&◌, ℕ, true, false, List, [], ◌∷◌, length, get_or, drop, refl, ap, arith, if◌then◌else◌}
use Rattle.def_term.specs.Tree.{Tree, tuple, list}
use Rattle.def_term.specs.Order.{same}
use Rattle.def_term.specs.Names.{word}
use Rattle.def_running_node.specs.NodeReplies.{all_are_this, option_term, options_once, is_of_none, matches_none}
use Rattle.tn_term.specs.Views.{tree_of, trees_of}
use Rattle.tn_term.specs.declared.term.Term.{Term}
use Rattle.tn_term.proofs.Trees.{here}

-- ---- three terms

pub not_three : {A : Type 0} (xs : List (Term A)) → length xs ≢ 3 → false ≡ matches_none (tuple (trees_of xs))
not_three [] other = refl
not_three (x ∷ []) other = refl
not_three (x ∷ y ∷ []) other = refl
not_three (x ∷ y ∷ z ∷ []) other = absurd (other refl)
not_three (x ∷ y ∷ z ∷ w ∷ ws) other = refl

pub of_three : {A : Type 0} (xs : List (Term A)) (x y z : Term A) → length xs ≡ 3 → x ≡ get_or xs 0 x → y ≡ get_or xs 1 y → z ≡ get_or xs 2 z
    → is_of_none (tree_of x) (tree_of y) (tree_of z) ≡ matches_none (tuple (trees_of xs))
of_three [] x y z three a b c = absurd (omega arith)
of_three (p ∷ []) x y z three a b c = absurd (omega arith)
of_three (p ∷ q ∷ []) x y z three a b c = absurd (omega arith)
of_three (p ∷ q ∷ r ∷ []) x y z three a b c = λ i. is_of_none (tree_of (a i)) (tree_of (b i)) (tree_of (c i))
of_three (p ∷ q ∷ r ∷ s ∷ ss) x y z three a b c = absurd (omega arith)

-- ---- options

-- the next of the terms is the option or isn't
pub next_is : {A : Type 0} (t : Tree) (xs : List (Term A)) (i : ℕ) (x : Term A) → i < length xs → x ≡ get_or xs i x → all_are_this t (trees_of (drop i xs)) ≡ (same (tree_of x) t && all_are_this t (trees_of (drop (i + 1) xs)))
next_is t xs i x below is = ap (all_are_this t) (here tree_of xs i x below is)

-- a list with an element
pub once_is : {A : Type 0} (xs : List (Term A)) → length xs ≢ 0
    → options_once (list (trees_of xs)) ≡ (if all_are_this (word "local") (trees_of xs) then option_term true else if all_are_this (word "global") (trees_of xs) then option_term false else list (trees_of xs))
once_is [] some = absurd (some refl)
once_is (x ∷ xs) some = refl

pub none_is : {A : Type 0} (xs : List (Term A)) → length xs ≡ 0 → options_once (list (trees_of xs)) ≡ list (trees_of xs)
none_is [] e = refl
none_is (x ∷ xs) e = absurd (omega (arith, e))
