-- What two answers have in common, where of each something is known.
use Rattle.std.proofs.Common.{◌≡◌, Option, Some, None, IfSome, Result, Ok, Err, IfOk}
use Rattle.complete_scripts.specs.Agreement.{Agree, WhereBoth}

pub both_if_ok : {X E : Type 0} (P Q : X → Type 0) (G : X → X → Type 0) → ((x y : X) → P x → Q y → G x y)
    → (r q : Result X E) → IfOk r P → IfOk q Q → IfOk r (λ x. IfOk q (λ y. G x y))
both_if_ok P Q G by (Ok x) (Ok y) h i = by x y h i
both_if_ok P Q G by (Ok x) (Err e) h i = tt
both_if_ok P Q G by (Err e) q h i = tt

-- where both say something, it is the same, and so this holds
pub where_both : {T G : Type 0} (P Q : T → Type 0) → ((x y : T) → x ≡ y → P x → Q y → G)
    → (o p : Option T) → Agree o p → IfSome o P → IfSome p Q → WhereBoth o p G
where_both P Q by None p e h i = tt
where_both P Q by (Some x) None e h i = tt
where_both P Q by (Some x) (Some y) e h i = by x y e h i
