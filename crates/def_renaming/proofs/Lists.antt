-- What is in a list: what a search finds, and what a `flat_map` has.
use Rattle.std.proofs.Common.{◌≡◌, ◌∙◌, sym, ap, ℕ, zero, suc, ◌<◌, inl, inr, ◌⊎◌, Bool, true, false, cond, List, [], ◌∷◌, length, get_or, Contains, find, flat_map, slice_get, Option, Some, None, option_and_then, refl, arith}
use Rattle.std.proofs.lemmas.List.Elements.{Contains-get_or, Contains-append_left, Contains-append_right, Contains-append_cases}

pub nothing_in : {X : Type 0} (x : X) → Contains [] x → ⊥
nothing_in x h = omega (arith, h.1)

pub first_in : {X : Type 0} (x : X) (xs : List X) → Contains (x ∷ xs) x
first_in x xs = Contains-get_or (x ∷ xs) 0 x (omega arith)

pub later_in : {X : Type 0} (x : X) (xs : List X) (y : X) → Contains xs y → Contains (x ∷ xs) y
later_in x xs y h = Contains-append_right (x ∷ []) xs y h

only_in : {X : Type 0} (x y : X) (k : ℕ) → k < length (x ∷ []) → get_or (x ∷ []) k y ≡ y → x ≡ y
only_in x y zero below is = is
only_in x y (suc k) below is = absurd (omega arith)

pub one_in : {X : Type 0} (x y : X) → Contains (x ∷ []) y → x ≡ y
one_in x y h = only_in x y h.0 h.1 h.2

pub in_cases : {X : Type 0} (x : X) (xs : List X) (y : X) → Contains (x ∷ xs) y → (x ≡ y) ⊎ Contains xs y
in_cases x xs y h = elim (Contains-append_cases (x ∷ []) xs y h) [ inl a ↦ inl (one_in x y a) | inr b ↦ inr b ]

-- ---- found

found_by : {X : Type 0} (b : Bool) (test : X → Bool) (y : X) (ys : List X) (x : X) → test y ≡ b → (find test ys ≡ Some x → Contains ys x × (test x ≡ true))
    → cond b (Some y) (find test ys) ≡ Some x → Contains (y ∷ ys) x × (test x ≡ true)
found_by true test y ys x t later e =
    let same : y ≡ x = cc in ((0, omega arith, same), ap test (sym same) ∙ t)
found_by false test y ys x t later e = let h = later e in (later_in y ys x h.0, h.1)

-- what is found is there and passes
pub found : {X : Type 0} (test : X → Bool) (xs : List X) (x : X) → find test xs ≡ Some x → Contains xs x × (test x ≡ true)
found test [] x e = cc
found test (y ∷ ys) x e = found_by (test y) test y ys x refl (found test ys x) e

none_by : {X : Type 0} (b : Bool) (test : X → Bool) (y : X) (ys : List X) → test y ≡ b → (find test ys ≡ None → (x : X) → Contains ys x → test x ≡ false)
    → cond b (Some y) (find test ys) ≡ None → (x : X) → Contains (y ∷ ys) x → test x ≡ false
none_by true test y ys t later e x h = cc
none_by false test y ys t later e x h = elim (in_cases y ys x h) [ inl same ↦ ap test (sym same) ∙ t | inr k ↦ later e x k ]

-- where nothing is found nothing passes
pub none_found : {X : Type 0} (test : X → Bool) (xs : List X) → find test xs ≡ None → (x : X) → Contains xs x → test x ≡ false
none_found test [] e x h = absurd (nothing_in x h)
none_found test (y ∷ ys) e x h = none_by (test y) test y ys refl (none_found test ys) e x h

-- ---- flat_map

pub in_flat_map : {X Y : Type 0} (f : X → List Y) (xs : List X) (y : Y) → Contains (flat_map f xs) y → (x : X) × Contains xs x × Contains (f x) y
in_flat_map f [] y h = absurd (nothing_in y h)
in_flat_map f (x ∷ xs) y h =
    elim (Contains-append_cases (f x) (flat_map f xs) y h) [
      | inl a ↦ (x, first_in x xs, a)
      | inr b ↦ let r = in_flat_map f xs y b in (r.0, later_in x xs r.0 r.1, r.2)
    ]

pub flat_map_has : {X Y : Type 0} (f : X → List Y) (xs : List X) (x : X) (y : Y) → Contains xs x → Contains (f x) y → Contains (flat_map f xs) y
flat_map_has f [] x y h k = absurd (nothing_in x h)
flat_map_has f (z ∷ zs) x y h k =
    elim (in_cases z zs x h) [
      | inl same ↦ Contains-append_left (f z) (flat_map f zs) y (rw same k)
      | inr later ↦ Contains-append_right (f z) (flat_map f zs) y (flat_map_has f zs x y later k)
    ]

-- ---- the first element

pub head_in : {X : Type 0} (xs : List X) (x : X) → slice_get xs 0 ≡ Some x → Contains xs x
head_in [] x e = cc
head_in (y ∷ ys) x e = let same : y ≡ x = cc in (0, omega arith, same)

pub some_head : {X : Type 0} (xs : List X) (x : X) → Contains xs x → (y : X) × (slice_get xs 0 ≡ Some y)
some_head [] x h = absurd (nothing_in x h)
some_head (y ∷ ys) x h = (y, refl)

-- ---- one option after another

pub both_some : {X Y : Type 0} (f : X → Option Y) (o : Option X) (y : Y) → option_and_then f o ≡ Some y → (x : X) × (o ≡ Some x) × (f x ≡ Some y)
both_some f None y e = cc
both_some f (Some x) y e = (x, refl, e)
