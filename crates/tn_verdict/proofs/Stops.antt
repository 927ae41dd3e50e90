-- The first element that is no clause.
use Rattle.std.proofs.Common.{◌≡◌, ◌∙◌, ℕ, suc, ◌+◌, ◌<◌, ◌≤◌, List, length, get_or, drop, Option, None, Ok, sym, ap, add-one}
use Rattle.std.proofs.lemmas.List.{drop_all}
use Rattle.def_spec.specs.Expressions.{Dialect}
use Rattle.def_spec.specs.Outcome.{Clause}
use Rattle.def_spec.specs.Reading.{clause_of}
use Rattle.def_explain.specs.Places.{this_or, stop_after}
use Rattle.tn_term.proofs.Trees.{here}
use Rattle.tn_term.specs.declared.term.Term.{Term}
use Rattle.tn_term.specs.Views.{tree_of, trees_of}

module _ {A : Type 0} (d : Dialect) (xs : List (Term A)) (i : ℕ) (whole : Option ℕ) where
  pub reads_on : (x : Term A) (k : Clause) → i < length xs → x ≡ get_or xs i x → clause_of d (tree_of x) ≡ Ok k
      → stop_after d i (trees_of (drop i xs)) ≡ whole → stop_after d (i + 1) (trees_of (drop (i + 1) xs)) ≡ whole
  reads_on x k below is read so_far =
      ap (λ m. stop_after d m (trees_of (drop (i + 1) xs))) (add-one i)
      ∙ sym (ap (stop_after d i) (here tree_of xs i x below is) ∙ ap (λ r. this_or i r (stop_after d (suc i) (trees_of (drop (i + 1) xs)))) read)
      ∙ so_far

  pub reads_all : length xs ≤ i → stop_after d i (trees_of (drop i xs)) ≡ whole → None ≡ whole
  reads_all past so_far = sym (ap (λ ys. stop_after d i (trees_of ys)) (drop_all i xs past)) ∙ so_far
