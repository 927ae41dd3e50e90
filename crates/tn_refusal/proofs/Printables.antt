-- What is shown is printable.
use Rattle.std.proofs.Common.{◌≡◌, ℕ, ◌&&◌, cond, Bool, true, false, List, [], ◌∷◌, map, refl, ap, ◌∙◌}
use Rattle.def_text.specs.Tokens.{all_are, is_printable}
use Rattle.tn_refusal.specs.Lines.{printable_byte}

by-test : (t : Bool) (b : ℕ) → is_printable b ≡ t → is_printable (cond t b 63) ≡ true
by-test true b e = e
by-test false b e = refl

both-true : (p q : Bool) → p ≡ true → q ≡ true → (p && q) ≡ true
both-true p q e f = ap (λ x. x && q) e ∙ f

pub all_shown : (bytes : List ℕ) → all_are is_printable (map printable_byte bytes) ≡ true
all_shown [] = refl
all_shown (b ∷ bs) = both-true (is_printable (printable_byte b)) (all_are is_printable (map printable_byte bs)) (by-test (is_printable b) b refl) (all_shown bs)
