-- The first of two texts where a test holds, and the other where it doesn't.
use Rattle.std.proofs.Common.{◌≡◌, ◌∙◌, Bool, true, false, if◌then◌else◌, sym, ap}

pub where_true : {X : Type 0} {b c : Bool} {x : X} (y : X) → b ≡ c → b ≡ true → x ≡ (if c then x else y)
where_true {X} {b} {c} {x} y is so = sym (ap (λ z. if z then x else y) (sym is ∙ so))

pub where_false : {X : Type 0} {b c : Bool} (x : X) {o y : X} → b ≡ c → b ≡ false → o ≡ y → o ≡ (if c then x else y)
where_false {X} {b} {c} x {o} {y} is so next = next ∙ sym (ap (λ z. if z then x else y) (sym is ∙ so))
