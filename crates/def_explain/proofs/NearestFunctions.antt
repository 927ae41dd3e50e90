-- The function that was probably meant is there, and has the module or the name that is asked for.
use Rattle.std.proofs.Common.{◌≡◌, ◌⊎◌, inl, inr, ◌∙◌, Bool, true, false, ◌||◌, ◌&&◌, if◌then◌else◌, List, [], ◌∷◌, Option, Some, None, refl, sym, ap}
use Rattle.std.specs.Option.{option_or}
use Rattle.def_term.specs.Names.{Name, Mfa}
use Rattle.def_explain.specs.Lists.{One}
use Rattle.def_explain.specs.CommandReasons.{IsTaken}
use Rattle.def_explain.specs.NearNames.{is_near}
use Rattle.def_explain.specs.NearestFunctions.{has_module, has_name, has_both, has_near_name, first_function, nearest_in_module, nearest_to}
use Rattle.def_explain.specs.ReasonLaws.{IsAlike, IsNearest, NearestIsThere, SomeNearestWhereAlike}
use Rattle.def_explain.proofs.SpecReasons.{none-some}

-- ---- the first with a test

one-map : {X : Type 0} (P Q : X → Type 0) (xs : List X) → ((x : X) → P x → Q x) → One P xs → One Q xs
one-map P Q [] f h = absurd h
one-map P Q (x ∷ xs) f (inl h) = inl (f x h)
one-map P Q (x ∷ xs) f (inr h) = inr (one-map P Q xs f h)

abbrev Passes : (Mfa → Bool) → Mfa → Mfa × Bool → Type 0
Passes test f k = (k.0 ≡ f) × (test f ≡ true)

first-is : (test : Mfa → Bool) (ks : List (Mfa × Bool)) (f : Mfa) → first_function test ks ≡ Some f → One (Passes test f) ks
first-is test [] f e = absurd (none-some f e)
first-is test (k ∷ ks) f e = go (first-is test ks f) (test k.0) refl e
  where
    here : Some k.0 ≡ Some f → k.0 ≡ f
    here e = cc

    go : (first_function test ks ≡ Some f → One (Passes test f) ks) → (b : Bool) → test k.0 ≡ b → (if b then Some k.0 else first_function test ks) ≡ Some f → One (Passes test f) (k ∷ ks)
    go later true t e = inl (here e, ap test (sym (here e)) ∙ t)
    go later false t e = inr (later e)

first-there : (test : Mfa → Bool) (ks : List (Mfa × Bool)) → One (λ k. test k.0 ≡ true) ks → IsTaken (first_function test ks)
first-there test [] h = absurd h
first-there test (k ∷ ks) h = go (first-there test ks) (test k.0) refl h
  where
    go : (One (λ j. test j.0 ≡ true) ks → IsTaken (first_function test ks)) → (b : Bool) → test k.0 ≡ b
        → (test k.0 ≡ true) ⊎ One (λ j. test j.0 ≡ true) ks → IsTaken (if b then Some k.0 else first_function test ks)
    go later true t h = (k.0, refl)
    go later false t (inl h) = absurd (cc (sym t ∙ h))
    go later false t (inr h) = later h

-- ---- the nearest

or-left : (a b : Bool) → a ≡ true → (a || b) ≡ true
or-left a b h = ap (λ x. x || b) h

or-right : (a b : Bool) → b ≡ true → (a || b) ≡ true
or-right true b h = refl
or-right false b h = h

and-first : (a b : Bool) → (a && b) ≡ true → a ≡ true
and-first true b h = refl
and-first false b h = absurd (cc h)

either : (a b : Bool) → (a || b) ≡ true → (a ≡ true) ⊎ (b ≡ true)
either true b h = inl refl
either false b h = inr h

first-or : {X : Type 0} (o p : Option X) (x : X) → option_or o p ≡ Some x → (o ≡ Some x) ⊎ (p ≡ Some x)
first-or None p x e = inr e
first-or (Some y) p x e = inl e

taken-first : {X : Type 0} (o p : Option X) → IsTaken o → IsTaken (option_or o p)
taken-first None p h = absurd (none-some h.0 h.1)
taken-first (Some y) p h = (y, refl)

taken-second : {X : Type 0} (o p : Option X) → IsTaken p → IsTaken (option_or o p)
taken-second None p h = h
taken-second (Some y) p h = (y, refl)

module _ (m g : Name) where
  as-nearest : (test : Mfa → Bool) (ks : List (Mfa × Bool)) (f : Mfa) → (test f ≡ true → IsAlike m g f) → first_function test ks ≡ Some f → One (IsNearest m g f) ks
  as-nearest test ks f alike e = one-map (Passes test f) (IsNearest m g f) ks (λ k p. (p.0, alike p.1)) (first-is test ks f e)

  nearest-there : (ks : List (Mfa × Bool)) (f : Mfa) → nearest_to m g ks ≡ Some f → One (IsNearest m g f) ks
  nearest-there ks f e = of-both (first-or (first_function (has_both m g) ks) (option_or (first_function (has_name g) ks) (nearest_in_module m g ks)) f e)
    where
      of-module : (first_function (has_near_name m g) ks ≡ Some f) ⊎ (first_function (has_module m) ks ≡ Some f) → One (IsNearest m g f) ks
      of-module (inl h) = as-nearest (has_near_name m g) ks f (λ b. or-left (has_module m f) (has_name g f) (and-first (has_module m f) (is_near g f.function_name) b)) h
      of-module (inr h) = as-nearest (has_module m) ks f (or-left (has_module m f) (has_name g f)) h

      of-name : (first_function (has_name g) ks ≡ Some f) ⊎ (nearest_in_module m g ks ≡ Some f) → One (IsNearest m g f) ks
      of-name (inl h) = as-nearest (has_name g) ks f (or-right (has_module m f) (has_name g f)) h
      of-name (inr h) = of-module (first-or (first_function (has_near_name m g) ks) (first_function (has_module m) ks) f h)

      of-both : (first_function (has_both m g) ks ≡ Some f) ⊎ (option_or (first_function (has_name g) ks) (nearest_in_module m g ks) ≡ Some f) → One (IsNearest m g f) ks
      of-both (inl h) = as-nearest (has_both m g) ks f (λ b. or-left (has_module m f) (has_name g f) (and-first (has_module m f) (has_name g f) b)) h
      of-both (inr h) = of-name (first-or (first_function (has_name g) ks) (nearest_in_module m g ks) f h)

  split : (ks : List (Mfa × Bool)) → One (λ k. IsAlike m g k.0) ks → One (λ k. has_module m k.0 ≡ true) ks ⊎ One (λ k. has_name g k.0 ≡ true) ks
  split [] h = absurd h
  split (k ∷ ks) (inl h) = go (either (has_module m k.0) (has_name g k.0) h)
    where
      go : (has_module m k.0 ≡ true) ⊎ (has_name g k.0 ≡ true) → One (λ k. has_module m k.0 ≡ true) (k ∷ ks) ⊎ One (λ k. has_name g k.0 ≡ true) (k ∷ ks)
      go (inl a) = inl (inl a)
      go (inr b) = inr (inl b)
  split (k ∷ ks) (inr h) = go (split ks h)
    where
      go : One (λ k. has_module m k.0 ≡ true) ks ⊎ One (λ k. has_name g k.0 ≡ true) ks → One (λ k. has_module m k.0 ≡ true) (k ∷ ks) ⊎ One (λ k. has_name g k.0 ≡ true) (k ∷ ks)
      go (inl a) = inl (inr a)
      go (inr b) = inr (inr b)

  some-nearest : (ks : List (Mfa × Bool)) → One (λ k. IsAlike m g k.0) ks → IsTaken (nearest_to m g ks)
  some-nearest ks h = taken-second (first_function (has_both m g) ks) (option_or (first_function (has_name g) ks) (nearest_in_module m g ks)) (go (split ks h))
    where
      go : One (λ k. has_module m k.0 ≡ true) ks ⊎ One (λ k. has_name g k.0 ≡ true) ks → IsTaken (option_or (first_function (has_name g) ks) (nearest_in_module m g ks))
      go (inl a) = taken-second (first_function (has_name g) ks) (nearest_in_module m g ks) (taken-second (first_function (has_near_name m g) ks) (first_function (has_module m) ks) (first-there (has_module m) ks a))
      go (inr b) = taken-first (first_function (has_name g) ks) (nearest_in_module m g ks) (first-there (has_name g) ks b)

pub nearest_is_there : NearestIsThere
nearest_is_there m g ks f e = nearest-there m g ks f e

pub some_nearest_where_alike : SomeNearestWhereAlike
some_nearest_where_alike m g ks h = some-nearest m g ks h
