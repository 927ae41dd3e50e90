-- Answers of which one thing is true are the same where it is true of one thing alone.
use Rattle.std.proofs.Common.{◌≡◌, Option, Some, None, IfSome}
use Rattle.complete_scripts.specs.Agreement.{Agree}

pub agree_by : {T : Type 0} (P : T → Type 0) → ((x y : T) → P x → P y → x ≡ y) → (o p : Option T) → IfSome o P → IfSome p P → Agree o p
agree_by P one None p h i = tt
agree_by P one (Some x) None h i = tt
agree_by P one (Some x) (Some y) h i = one x y h i
