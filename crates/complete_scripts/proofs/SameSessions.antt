-- Two steps of iterators that have the same left give the same, and leave the same.
use Rattle.std.proofs.Common.{◌≡◌, ◌∙◌, List, [], ◌∷◌, Option, Some, None, refl, sym, ap}
use Rattle.std.specs.Iterator.{YieldsFirstBy}
use Rattle.std.specs.Option.{option_map}

head_same : {X : Type 0} (x y : X) (xs ys : List X) → x ∷ xs ≡ y ∷ ys → x ≡ y
head_same x y xs ys e = cc

tail_same : {X : Type 0} (x y : X) (xs ys : List X) → x ∷ xs ≡ y ∷ ys → xs ≡ ys
tail_same x y xs ys e = cc

some_left : {X G : Type 0} (x : X) (xs : List X) → x ∷ xs ≡ [] → G
some_left x xs e = cc

module _ {X Y : Type 0} (view : X → Y) where
  abbrev Yields : List Y → Option X → List Y → Type 0
  Yields s r t = YieldsFirstBy view (λ left. left) s r t

  pub same_next : (s : List Y) (r q : Option X) (t u : List Y) → Yields s r t → Yields s q u → (option_map view r ≡ option_map view q) × (t ≡ u)
  same_next s None None t u h i = (refl, h.1 ∙ sym i.1)
  same_next s None (Some y) t u h i = some_left (view y) u (sym i ∙ h.0)
  same_next s (Some x) None t u h i = some_left (view x) t (sym h ∙ i.0)
  same_next s (Some x) (Some y) t u h i =
      let e : view x ∷ t ≡ view y ∷ u = sym h ∙ i in
      (ap Some (head_same (view x) (view y) t u e), tail_same (view x) (view y) t u e)
