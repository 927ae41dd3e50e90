-- What two calls leave, where both are done.
use Rattle.std.proofs.Common.{Result, Ok, Err, IfOk, OnOk}

pub both_done : {T E : Type 0} (r q : Result T E) (P Q G : Type 0) → (P → Q → G) → IfOk r (λ _. P) → IfOk q (λ _. Q) → OnOk r (OnOk q G)
both_done (Ok x) (Ok y) P Q G by h i = by h i
both_done (Ok x) (Err e) P Q G by h i = tt
both_done (Err e) q P Q G by h i = tt

pub both_ok : {X Y E : Type 0} (r : Result X E) (q : Result Y E) (P : X → Type 0) (Q : Y → Type 0) (G : X → Y → Type 0) → ((x : X) (y : Y) → P x → Q y → G x y) → IfOk r P → IfOk q Q → IfOk r (λ x. IfOk q (G x))
both_ok (Ok x) (Ok y) P Q G by h i = by x y h i
both_ok (Ok x) (Err e) P Q G by h i = tt
both_ok (Err e) q P Q G by h i = tt
