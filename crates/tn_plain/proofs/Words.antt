-- What a list of two or four words is after its first.
use Rattle.std.proofs.Common.{◌≡◌, List, [], ◌∷◌, length, drop, map, slice_index_or, refl, arith}

pub one_behind : {X Y : Type 0} (f : X → Y) (ws : List X) (x : X) → length ws ≡ 2 → x ≡ slice_index_or ws 1 x
    → drop 1 (map f ws) ≡ f x ∷ []
one_behind f [] x two is = absurd (omega arith)
one_behind f (a ∷ []) x two is = absurd (omega arith)
one_behind f (a ∷ b ∷ []) x two is = rw is refl
one_behind f (a ∷ b ∷ c ∷ ws) x two is = absurd (omega arith)

pub three_behind : {X Y : Type 0} (f : X → Y) (ws : List X) (x y z : X) → length ws ≡ 4
    → x ≡ slice_index_or ws 1 x → y ≡ slice_index_or ws 2 y → z ≡ slice_index_or ws 3 z
    → drop 1 (map f ws) ≡ f x ∷ f y ∷ f z ∷ []
three_behind f [] x y z four first second third = absurd (omega arith)
three_behind f (a ∷ []) x y z four first second third = absurd (omega arith)
three_behind f (a ∷ b ∷ []) x y z four first second third = absurd (omega arith)
three_behind f (a ∷ b ∷ c ∷ []) x y z four first second third = absurd (omega arith)
three_behind f (a ∷ b ∷ c ∷ d ∷ []) x y z four first second third = rw (first, second, third) refl
three_behind f (a ∷ b ∷ c ∷ d ∷ e ∷ ws) x y z four first second third = absurd (omega arith)
