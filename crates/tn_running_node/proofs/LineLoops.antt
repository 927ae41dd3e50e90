-- Loops over lines.
use Rattle.std.proofs.Common.{◌≡◌, ◌∙◌, ℕ, zero, suc, ◌+◌, ◌<◌, List, [], ◌∷◌, ◌++◌, length, map, drop, get_or, sym, ap, add-one, append_assoc, arith}
use Rattle.std.specs.Prelude.{flat_map}

-- the place that a loop comes to
at-place : {X Y : Type 0} (g : X → Y) (xs : List X) (n : ℕ) (x : X) → n < length xs → x ≡ get_or xs n x → drop n (map g xs) ≡ g x ∷ drop (suc n) (map g xs)
at-place g [] n x below is = absurd (omega arith)
at-place g (y ∷ ys) zero x below is = ap (λ z. g z ∷ map g ys) (sym is)
at-place g (y ∷ ys) (suc n) x below is = at-place g ys n x (omega (arith, below)) is

pub here_and_after : {X Y : Type 0} (g : X → Y) (xs : List X) (n : ℕ) (x : X) → n < length xs → x ≡ get_or xs n x → drop n (map g xs) ≡ g x ∷ drop (n + 1) (map g xs)
here_and_after g xs n x below is = at-place g xs n x below is ∙ ap (λ k. g x ∷ drop k (map g xs)) (sym (add-one n))

-- one more line was appended
pub one_more_line : {X : Type 0} (g : X → List ℕ) (f : List ℕ → List ℕ) (xs : List X) (n : ℕ) (x : X) (now next whole : List ℕ) → n < length xs → x ≡ get_or xs n x → next ≡ now ++ f (g x)
    → now ++ flat_map f (drop n (map g xs)) ≡ whole → next ++ flat_map f (drop (n + 1) (map g xs)) ≡ whole
one_more_line g f xs n x now next whole below is made so_far =
    ap (λ l. l ++ flat_map f (drop (n + 1) (map g xs))) made
    ∙ append_assoc now (f (g x)) (flat_map f (drop (n + 1) (map g xs)))
    ∙ ap (λ ls. now ++ flat_map f ls) (sym (here_and_after g xs n x below is))
    ∙ so_far
