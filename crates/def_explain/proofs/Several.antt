-- One of several, by a test of each.
use Rattle.std.proofs.Common.{◌≡◌, ◌⊎◌, inl, inr, Bool, true, false, ◌||◌, List, [], ◌∷◌, refl, ap}
use Rattle.std.specs.List.{list_any}
use Rattle.def_explain.specs.Lists.{One}

-- ---- truth values

-- of two one is true, and what follows of that
pub split : {P Q : Type 0} (a b : Bool) → (a ≡ true → P) → (b ≡ true → Q) → (a || b) ≡ true → P ⊎ Q
split true b f g h = inl (f refl)
split false b f g h = inr (g h)

pub left_is : (a b : Bool) → a ≡ true → (a || b) ≡ true
left_is a b h = ap (λ x. x || b) h

pub right_is : (a b : Bool) → b ≡ true → (a || b) ≡ true
right_is true b h = refl
right_is false b h = h

-- ---- several

-- one passes exactly where one is such
pub one_by_any : {X : Type 0} (f : X → Bool) (P : X → Type 0) (each : (x : X) → f x ≡ true → P x) (xs : List X) → list_any f xs ≡ true → One P xs
one_by_any f P each [] h = absurd (cc h)
one_by_any f P each (x ∷ xs) h = split (f x) (list_any f xs) (each x) (one_by_any f P each xs) h

pub any_by_one : {X : Type 0} (f : X → Bool) (P : X → Type 0) (each : (x : X) → P x → f x ≡ true) (xs : List X) → One P xs → list_any f xs ≡ true
any_by_one f P each [] h = absurd h
any_by_one f P each (x ∷ xs) (inl h) = left_is (f x) (list_any f xs) (each x h)
any_by_one f P each (x ∷ xs) (inr h) = right_is (f x) (list_any f xs) (any_by_one f P each xs h)
