-- Four pieces that are appended one after another.
use Rattle.std.proofs.Common.{◌≡◌, ◌∙◌, ap, ℕ, List, ◌++◌, append_assoc}

pub four_pieces : (o a b d e n1 n2 n3 n4 : List ℕ) → n1 ≡ o ++ a → n2 ≡ n1 ++ b → n3 ≡ n2 ++ d → n4 ≡ n3 ++ e → n4 ≡ o ++ (a ++ b ++ d ++ e)
four_pieces o a b d e n1 n2 n3 n4 p q r s =
    s
    ∙ ap (λ l. l ++ e) (r ∙ ap (λ l. l ++ d) (q ∙ ap (λ l. l ++ b) p ∙ append_assoc o a b) ∙ append_assoc o (a ++ b) d)
    ∙ append_assoc o (a ++ b ++ d) e
