-- Texts that grow at their end.
use Rattle.std.proofs.Common.{◌≡◌, ℕ, List, [], ◌∷◌, ◌++◌, length, take, refl, ap, ◌∙◌, append_assoc}
use Rattle.tn_text.specs.Writes.{Grows}

pub grows-on : (a b c : List ℕ) → Grows a b → Grows b c → Grows a c
grows-on a b c g h = record {
  added = g.added ++ h.added;
  whole = h.whole ∙ ap (λ xs. xs ++ h.added) g.whole ∙ append_assoc a g.added h.added;
}

take-front : (xs ys : List ℕ) → take (length xs) (xs ++ ys) ≡ xs
take-front [] ys = refl
take-front (x ∷ xs) ys = ap (λ zs. x ∷ zs) (take-front xs ys)

-- what was there is left, where the rest is cut off
pub cut-back : (n : ℕ) (old grown cut : List ℕ) → n ≡ length old → Grows old grown → cut ≡ take n grown → cut ≡ old
cut-back n old grown cut l g e = e ∙ ap (λ k. take k grown) l ∙ ap (take (length old)) g.whole ∙ take-front old g.added
