-- What two answers have, where there are two.
use Rattle.std.proofs.Common.{Result, Ok, Err, IfOk}
use Rattle.std.specs.Prelude.{OnOk}

pub if_both : {X Y E F : Type 0} (r : Result X E) (q : Result Y F) (P : X → Type 0) (Q : Y → Type 0) (R : X → Y → Type 0) → ((x : X) (y : Y) → P x → Q y → R x y) → IfOk r P → IfOk q Q → IfOk r (λ x. IfOk q (λ y. R x y))
if_both (Ok x) (Ok y) P Q R h i j = h x y i j
if_both (Ok x) (Err e) P Q R h i j = tt
if_both (Err d) q P Q R h i j = tt

pub on_both : {X Y E F : Type 0} (r : Result X E) (q : Result Y F) (P Q R : Type 0) → (P → Q → R) → OnOk r P → OnOk q Q → OnOk r (OnOk q R)
on_both (Ok x) (Ok y) P Q R h i j = h i j
on_both (Ok x) (Err e) P Q R h i j = tt
on_both (Err d) q P Q R h i j = tt
