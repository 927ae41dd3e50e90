-- Tuples of three, and the functions that they name.
use Rattle.std.proofs.Common.{◌≡◌, ◌≢◌, List, [], ◌∷◌, length, get_or, Option, refl, subst, arith}
use Rattle.def_term.specs.Tree.{tuple, triple}
use Rattle.def_term.specs.Names.{Mfa, mfa_term}
use Rattle.tn_term.specs.declared.term.Term.{Term}
use Rattle.tn_term.specs.declared.mfa.Mfa as code
use Rattle.tn_term.specs.Views.{tree_of, trees_of}
use Rattle.tn_verdict.specs.SpecTestInputs.{IsMfaOf}

pub not_three : {A : Type 0} (xs : List (Term A)) (f : Mfa) → length xs ≢ 3 → tuple (trees_of xs) ≢ mfa_term f
not_three [] f other = λ e. cc
not_three (x ∷ []) f other = λ e. cc
not_three (x ∷ y ∷ []) f other = λ e. cc
not_three (x ∷ y ∷ z ∷ []) f other = absurd (other refl)
not_three (x ∷ y ∷ z ∷ w ∷ ws) f other = λ e. cc

pub of_three : {A : Type 0} (m : Option (code.Mfa A)) (xs : List (Term A)) (x y z : Term A) → length xs ≡ 3 → x ≡ get_or xs 0 x → y ≡ get_or xs 1 y → z ≡ get_or xs 2 z
    → IsMfaOf (triple (tree_of x) (tree_of y) (tree_of z)) m → IsMfaOf (tuple (trees_of xs)) m
of_three m [] x y z three a b c h = absurd (omega arith)
of_three m (p ∷ []) x y z three a b c h = absurd (omega arith)
of_three m (p ∷ q ∷ []) x y z three a b c h = absurd (omega arith)
of_three m (p ∷ q ∷ r ∷ []) x y z three a b c h = subst (λ t. IsMfaOf t m) (λ i. triple (tree_of (a i)) (tree_of (b i)) (tree_of (c i))) h
of_three m (p ∷ q ∷ r ∷ s ∷ ss) x y z three a b c h = absurd (omega arith)
