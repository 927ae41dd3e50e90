-- Whether one of a program's commands has a trap, one command after another.
use Rattle.std.proofs.Common.{◌≡◌, ◌∙◌, ℕ, ◌+◌, ◌<◌, Bool, true, false, ◌||◌, List, ◌∷◌, map, length, drop, get_or, sym, ap}
use Rattle.std.specs.List.{list_any}
use Rattle.std.proofs.lemmas.List.{drop_more}

module _ {A B : Type 0} (f : A → B) (test : B → Bool) (xs : List A) (i : ℕ) (x : A) (below : i < length xs) (is : x ≡ get_or xs i x) where
  at_place : list_any test (map f (drop i xs)) ≡ (test (f x) || list_any test (map f (drop (i + 1) xs)))
  at_place = ap (λ ys. list_any test (map f ys)) (drop_more xs i x below ∙ ap (λ y. y ∷ drop (i + 1) xs) (sym is))

  -- this one has
  pub found : true ≡ test (f x) → (whole : Bool) → list_any test (map f (drop i xs)) ≡ whole → true ≡ whole
  found e whole left = ap (λ b. b || list_any test (map f (drop (i + 1) xs))) e ∙ sym at_place ∙ left

  -- this one hasn't
  pub passed : false ≡ test (f x) → (whole : Bool) → list_any test (map f (drop i xs)) ≡ whole → list_any test (map f (drop (i + 1) xs)) ≡ whole
  passed e whole left = ap (λ b. b || list_any test (map f (drop (i + 1) xs))) e ∙ sym at_place ∙ left
