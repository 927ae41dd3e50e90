-- Why there is no end of what is in quotes, where a byte in it is known.
use Rattle.std.proofs.Common.{◌≡◌, ◌∙◌, ℕ, List, [], ◌∷◌, ◌++◌, Option, Some, None, Result, Ok, Err, OnOk, codes, decimal, ap, append_assoc}
use Rattle.std.specs.Prelude.{slice_get}
use Rattle.def_wording.specs.SyntaxTexts.{no_end_text}

with_byte : (bytes : List ℕ) (b : ℕ) → Some b ≡ slice_get bytes 0 → codes "with the byte " ++ decimal b ≡ no_end_text bytes
with_byte [] b e = absurd (cc e)
with_byte (x ∷ xs) b e = ap (λ (o : Option ℕ). words o) e
  where
    words : Option ℕ → List ℕ
    words None = []
    words (Some n) = codes "with the byte " ++ decimal n

pub put_byte_in_quotes : {T E : Type 0} (done : Result T E) (o bytes d : List ℕ) (b : ℕ) → Some b ≡ slice_get bytes 0 → OnOk done (d ≡ (o ++ codes "with the byte ") ++ decimal b) → OnOk done (d ≡ o ++ no_end_text bytes)
put_byte_in_quotes (Ok v) o bytes d b e h = h ∙ append_assoc o (codes "with the byte ") (decimal b) ∙ ap (λ s. o ++ s) (with_byte bytes b e)
put_byte_in_quotes (Err x) o bytes d b e h = tt
