-- The texts of the variables of a condition, one binding after another.
use Rattle.std.proofs.Common.{◌≡◌, ◌∙◌, ℕ, ◌+◌, ◌<◌, true, false, List, ◌∷◌, ◌++◌, length, get_or, drop, map, cond, codes, sym, ap, append_assoc}
use Rattle.std.proofs.lemmas.List.{drop_more}
use Rattle.def_spec.specs.Matching.{Bindings}
use Rattle.def_spec.specs.Expressions.{Expr}
use Rattle.def_explain.specs.Reasons.{stands_in, bound_within}
use Rattle.def_explain.specs.Texts.{bound_text, bound_texts}
use Rattle.tn_head.specs.Views.{binding_seen}
use Rattle.tn_head.specs.declared.bindings.Binding.{Binding}

pieces : (out between text rest : List ℕ) → ((out ++ between) ++ text) ++ rest ≡ out ++ ((between ++ text) ++ rest)
pieces out between text rest = simp append_assoc

module _ {A : Type 0} (e : Expr) (xs : List (Binding A)) (i : ℕ) (x : Binding A) (below : i < length xs) (is : x ≡ get_or xs i x) where
  abbrev rest : Bindings
  rest = map binding_seen (drop (i + 1) xs)

  within_here : bound_within e (map binding_seen (drop i xs)) ≡ cond (stands_in x.number e) (binding_seen x ∷ bound_within e rest) (bound_within e rest)
  within_here =
      ap (λ ys. bound_within e (map binding_seen ys)) (drop_more xs i x below)
      ∙ ap (λ y. cond (stands_in y.number e) (binding_seen y ∷ bound_within e rest) (bound_within e rest)) (sym is)

  -- its variable stands in the condition, and its text comes next
  pub bound_next : (out between : List ℕ) → stands_in x.number e ≡ true
      → ((out ++ between) ++ bound_text (binding_seen x)) ++ bound_texts (codes ", ") (bound_within e rest) ≡ out ++ bound_texts between (bound_within e (map binding_seen (drop i xs)))
  bound_next out between h =
      pieces out between (bound_text (binding_seen x)) (bound_texts (codes ", ") (bound_within e rest))
      ∙ ap (λ ps. out ++ bound_texts between ps) (sym (within_here ∙ ap (λ t. cond t (binding_seen x ∷ bound_within e rest) (bound_within e rest)) h))

  -- or it doesn't
  pub bound_passed : (out between : List ℕ) → stands_in x.number e ≡ false
      → out ++ bound_texts between (bound_within e rest) ≡ out ++ bound_texts between (bound_within e (map binding_seen (drop i xs)))
  bound_passed out between h =
      ap (λ ps. out ++ bound_texts between ps) (sym (within_here ∙ ap (λ t. cond t (binding_seen x ∷ bound_within e rest) (bound_within e rest)) h))
