-- Loops over the terms of a vector, of which each writes a part or may decide.
use Rattle.std.proofs.Common.{◌≡◌, ◌∙◌, ℕ, ◌+◌, ◌<◌, ◌≤◌, List, ◌++◌, [], length, get_or, drop, sym, ap, append_assoc, append-nil}
use Rattle.def_term.specs.Tree.{Tree, Trees, none, more}
use Rattle.tn_term.specs.declared.term.Term.{Term}
use Rattle.tn_term.specs.Views.{tree_of, trees_of}
use Rattle.tn_term.proofs.Trees.{here, past}

-- ---- what is written

-- one more, after these bytes
pub next_written : {A : Type 0} (f g : Trees → List ℕ) (xs : List (Term A)) (i : ℕ) (x : Term A) (s u a b d z : List ℕ)
    → ((ts : Trees) → f (more (tree_of x) ts) ≡ s ++ u ++ g ts) → i < length xs → x ≡ get_or xs i x
    → a ++ f (trees_of (drop i xs)) ≡ z → b ≡ a ++ s → d ≡ b ++ u → d ++ g (trees_of (drop (i + 1) xs)) ≡ z
next_written f g xs i x s u a b d z step below is so_far between text =
    let rest = g (trees_of (drop (i + 1) xs)) in
    ap (λ o. o ++ rest) (text ∙ ap (λ o. o ++ u) between ∙ append_assoc a s u) ∙ append_assoc a (s ++ u) rest
    ∙ ap (λ o. a ++ o) (sym (ap f (here tree_of xs i x below is) ∙ step (trees_of (drop (i + 1) xs)))) ∙ so_far

-- all of them
pub all_written : {A : Type 0} (f : Trees → List ℕ) → f none ≡ [] → (xs : List (Term A)) (i : ℕ) (a z : List ℕ) → length xs ≤ i → a ++ f (trees_of (drop i xs)) ≡ z → a ≡ z
all_written f empty xs i a z over so_far = sym (append-nil a) ∙ ap (λ o. a ++ o) (sym (ap f (past tree_of xs i over) ∙ empty)) ∙ so_far

-- ---- what is decided

-- of the terms from one on, by what is said of that one
module _ {O B : Type 0} (op : O → B → B) (f g : Trees → B) (one : Tree → O) (step : (t : Tree) (ts : Trees) → f (more t ts) ≡ op (one t) (g ts)) where
  pub of_next : {A : Type 0} (xs : List (Term A)) (i : ℕ) (x : Term A) → i < length xs → x ≡ get_or xs i x
      → f (trees_of (drop i xs)) ≡ op (one (tree_of x)) (g (trees_of (drop (i + 1) xs)))
  of_next xs i x below is = ap f (here tree_of xs i x below is) ∙ step (tree_of x) (trees_of (drop (i + 1) xs))

  -- it decides
  pub decided : {A : Type 0} (xs : List (Term A)) (i : ℕ) (x : Term A) (o : O) (v whole : B) → i < length xs → x ≡ get_or xs i x
      → one (tree_of x) ≡ o → ((b : B) → op o b ≡ v) → f (trees_of (drop i xs)) ≡ whole → whole ≡ v
  decided xs i x o v whole below is found fixed so_far =
      sym so_far ∙ of_next xs i x below is ∙ ap (λ p. op p (g (trees_of (drop (i + 1) xs)))) found ∙ fixed (g (trees_of (drop (i + 1) xs)))

  -- those after it do
  pub passed : {A : Type 0} (xs : List (Term A)) (i : ℕ) (x : Term A) (o : O) (whole : B) → i < length xs → x ≡ get_or xs i x
      → one (tree_of x) ≡ o → ((b : B) → op o b ≡ b) → f (trees_of (drop i xs)) ≡ whole → g (trees_of (drop (i + 1) xs)) ≡ whole
  passed xs i x o whole below is found passes so_far =
      sym (passes (g (trees_of (drop (i + 1) xs)))) ∙ ap (λ p. op p (g (trees_of (drop (i + 1) xs)))) (sym found) ∙ sym (of_next xs i x below is) ∙ so_far

-- none of them does
pub ended : {A B : Type 0} (f : Trees → B) (xs : List (Term A)) (i : ℕ) (v whole : B) → f none ≡ v → length xs ≤ i → f (trees_of (drop i xs)) ≡ whole → whole ≡ v
ended f xs i v whole empty over so_far = sym so_far ∙ ap f (past tree_of xs i over) ∙ empty
