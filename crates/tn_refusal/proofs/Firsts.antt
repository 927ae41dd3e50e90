-- The first element of a list for which there is something, element by element.
use Rattle.std.proofs.Common.{◌≡◌, ◌∙◌, ℕ, ◌+◌, ◌<◌, ◌≤◌, List, [], ◌∷◌, ◌++◌, length, get_or, take, drop, map, Option, Some, None, sym, ap, append_assoc, append-nil}
use Rattle.std.proofs.lemmas.List.{drop_more, drop_all, take_more, map-append, length-map, length-take-le}
use Rattle.std.specs.Option.{option_or}
use Rattle.def_wording.specs.Firsts.{first_with_earlier}

module _ {X Z R : Type 0} (p : List Z → Z → Option R) (f : X → Z) (before : List Z) (xs : List X) where
  -- those before the element at i
  abbrev pub passed : ℕ → List Z
  passed i = before ++ map f (take i xs)

  -- what there is from i on is what the whole has
  abbrev pub FirstSo : ℕ → Type 0
  FirstSo i = first_with_earlier p (passed i) (map f (drop i xs)) ≡ first_with_earlier p before (map f xs)

  pub first_begins : FirstSo 0
  first_begins = ap (λ e. first_with_earlier p e (map f xs)) (append-nil before)

  one_more : (i : ℕ) (x : X) → i < length xs → x ≡ get_or xs i x → passed i ++ f x ∷ [] ≡ passed (i + 1)
  one_more i x below is =
      append_assoc before (map f (take i xs)) (f x ∷ [])
      ∙ ap (λ l. before ++ l) (ap (λ z. map f (take i xs) ++ f z ∷ []) is ∙ sym (map-append f (take i xs) (get_or xs i x ∷ [])) ∙ ap (map f) (sym (take_more xs i x below)))

  next : (i : ℕ) (x : X) → i < length xs → x ≡ get_or xs i x
      → first_with_earlier p (passed i) (map f (drop i xs)) ≡ option_or (p (passed i) (f x)) (first_with_earlier p (passed (i + 1)) (map f (drop (i + 1) xs)))
  next i x below is =
      let rest = map f (drop (i + 1) xs) in
      ap (λ ys. first_with_earlier p (passed i) (map f ys)) (drop_more xs i x below)
      ∙ ap (λ z. option_or (p (passed i) (f z)) (first_with_earlier p (passed i ++ f z ∷ []) rest)) (sym is)
      ∙ ap (λ e. option_or (p (passed i) (f x)) (first_with_earlier p e rest)) (one_more i x below is)

  pub found_here : (i : ℕ) (x : X) (r : R) → i < length xs → x ≡ get_or xs i x → p (passed i) (f x) ≡ Some r → FirstSo i → Some r ≡ first_with_earlier p before (map f xs)
  found_here i x r below is found so_far =
      sym (next i x below is ∙ ap (λ o. option_or o (first_with_earlier p (passed (i + 1)) (map f (drop (i + 1) xs)))) found) ∙ so_far

  pub found_later : (i : ℕ) (x : X) → i < length xs → x ≡ get_or xs i x → p (passed i) (f x) ≡ None → FirstSo i → FirstSo (i + 1)
  found_later i x below is found so_far =
      sym (next i x below is ∙ ap (λ o. option_or o (first_with_earlier p (passed (i + 1)) (map f (drop (i + 1) xs)))) found) ∙ so_far

  pub found_nowhere : (i : ℕ) → length xs ≤ i → FirstSo i → None ≡ first_with_earlier p before (map f xs)
  found_nowhere i past so_far = sym (ap (λ ys. first_with_earlier p (passed i) (map f ys)) (drop_all i xs past)) ∙ so_far

-- how many stand before it
pub passed_count : {X Z : Type 0} (f : X → Z) (xs : List X) (i : ℕ) → i ≤ length xs → length (map f (take i xs)) ≡ i
passed_count f xs i fits = length-map (take i xs) f ∙ length-take-le i xs fits
