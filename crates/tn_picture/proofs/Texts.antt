-- Texts one after the other.
use Rattle.std.proofs.Common.{◌≡◌, ◌∙◌, ℕ, List, ◌++◌, ap, append_assoc}

-- three texts one after the other
pub three_texts : (a x y z b d e : List ℕ) → b ≡ a ++ x → d ≡ b ++ y → e ≡ d ++ z → e ≡ a ++ ((x ++ y) ++ z)
three_texts a x y z b d e p q r =
    r ∙ ap (λ l. l ++ z) (q ∙ ap (λ l. l ++ y) p ∙ append_assoc a x y) ∙ append_assoc a (x ++ y) z
