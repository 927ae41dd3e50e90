-- What is written piece by piece.
use Rattle.std.proofs.Common.{◌≡◌, ◌∙◌, ℕ, List, ◌++◌, if◌then◌else◌, Result, Ok, Err, OnOk, is_ok, ap, append_assoc}

-- one piece, and then the rest, where that is refused or not
pub after_ok : {T E : Type 0} (done : Result T E) (o x r b d : List ℕ) → b ≡ o ++ x → OnOk done (d ≡ b ++ r) → OnOk done (d ≡ o ++ (x ++ r))
after_ok (Ok v) o x r b d first rest = rest ∙ ap (λ s. s ++ r) first ∙ append_assoc o x r
after_ok (Err e) o x r b d first rest = tt

-- one piece more after what was written
pub grown : (o x b r : List ℕ) → b ≡ o ++ x → b ++ r ≡ o ++ (x ++ r)
grown o x b r first = ap (λ s. s ++ r) first ∙ append_assoc o x r

-- the same text, otherwise put together
pub read_as : {T E : Type 0} (done : Result T E) (o x y d : List ℕ) → x ≡ y → OnOk done (d ≡ o ++ x) → OnOk done (d ≡ o ++ y)
read_as (Ok v) o x y d same h = h ∙ ap (λ s. o ++ s) same
read_as (Err e) o x y d same h = tt

-- one piece, where it isn't refused
pub put_ok : {T E : Type 0} (done : Result T E) (o x d : List ℕ) → d ≡ (if is_ok done then o ++ x else o) → OnOk done (d ≡ o ++ x)
put_ok (Ok v) o x d h = h
put_ok (Err e) o x d h = tt
