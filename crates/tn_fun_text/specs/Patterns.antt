-- What the code's checks of heads are compared with.
use Rattle.std.specs.Prelude.{◌≡◌, ℕ, ◌≤◌, Result, Ok, Err}
use Rattle.def_fun.specs.FunTexts.{OrReason, NoFunReason}
use Rattle.tn_fun_text.specs.declared.reason.Reason.{Reason}
use Rattle.tn_fun_text.specs.Reasons.{no_fun_reason_seen}

-- the greatest number, or the reason
abbrev pub greatest_in : {X : Type 0} → OrReason (X × ℕ) → Result ℕ NoFunReason
greatest_in (Ok p) = Ok p.1
greatest_in (Err r) = Err r

-- this is the greatest number, which no variable passes, or this is the reason
abbrev pub SaysGreatest : {A : Type 0} → Result ℕ NoFunReason → Result ℕ (Reason A) → Type 0
SaysGreatest r (Ok g) = (r ≡ Ok g) × (g ≤ 999)
SaysGreatest r (Err e) = r ≡ Err (no_fun_reason_seen e)

-- the definition prints it with this greatest number, or has this reason
abbrev pub IsGreatest : {A X : Type 0} → OrReason (X × ℕ) → Result ℕ (Reason A) → Type 0
IsGreatest r result = SaysGreatest (greatest_in r) result
