-- What is written piece by piece.
use Rattle.std.proofs.Common.{◌≡◌, ◌∙◌, ℕ, List, [], ◌++◌, if◌then◌else◌, Result, Ok, Err, OnOk, is_ok, sym, ap, append_assoc, append-nil}
use Rattle.tn_text.specs.Writes.{Grows}

-- one piece, and then the rest
pub behind : (o x r b d : List ℕ) → b ≡ o ++ x → d ≡ b ++ r → d ≡ o ++ (x ++ r)
behind o x r b d first rest = rest ∙ ap (λ s. s ++ r) first ∙ append_assoc o x r

-- the same, where the rest is refused or not
pub after_ok : {T E : Type 0} (done : Result T E) (o x r b d : List ℕ) → b ≡ o ++ x → OnOk done (d ≡ b ++ r) → OnOk done (d ≡ o ++ (x ++ r))
after_ok (Ok v) o x r b d first rest = behind o x r b d first rest
after_ok (Err e) o x r b d first rest = tt

-- the same text, otherwise put together
pub read_as : {T E : Type 0} (done : Result T E) (o x y d : List ℕ) → x ≡ y → OnOk done (d ≡ o ++ x) → OnOk done (d ≡ o ++ y)
read_as (Ok v) o x y d same h = h ∙ ap (λ s. o ++ s) same
read_as (Err e) o x y d same h = tt

-- two pieces and three, where the last is refused or not
pub two_ok : {T E : Type 0} (done : Result T E) (o x y d : List ℕ) → OnOk done (d ≡ (o ++ x) ++ y) → OnOk done (d ≡ o ++ (x ++ y))
two_ok (Ok v) o x y d h = h ∙ append_assoc o x y
two_ok (Err e) o x y d h = tt

pub three_ok : {T E : Type 0} (done : Result T E) (o x y z d : List ℕ) → OnOk done (d ≡ ((o ++ x) ++ y) ++ z) → OnOk done (d ≡ o ++ (x ++ (y ++ z)))
three_ok (Ok v) o x y z d h = h ∙ append_assoc (o ++ x) y z ∙ append_assoc o x (y ++ z)
three_ok (Err e) o x y z d h = tt

-- one piece, where it isn't refused
pub put_ok : {T E : Type 0} (done : Result T E) (o x d : List ℕ) → d ≡ (if is_ok done then o ++ x else o) → OnOk done (d ≡ o ++ x)
put_ok (Ok v) o x d h = h
put_ok (Err e) o x d h = tt

-- what got a piece or none has grows_on
pub grown_or_not : {T E : Type 0} (done : Result T E) (o x d : List ℕ) → d ≡ (if is_ok done then o ++ x else o) → Grows o d
grown_or_not (Ok v) o x d h = record { added = x; whole = h }
grown_or_not (Err e) o x d h = record { added = []; whole = h ∙ sym (append-nil o) }

pub grown_by : (o x d : List ℕ) → d ≡ o ++ x → Grows o d
grown_by o x d h = record { added = x; whole = h }

pub not_grown : (o d : List ℕ) → d ≡ o → Grows o d
not_grown o d h = record { added = []; whole = h ∙ sym (append-nil o) }
