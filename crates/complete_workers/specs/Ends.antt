-- When two readers or two writers are seen alike, and two answers end alike.
use Rattle.std.specs.Prelude.{◌≡◌, ℕ, List, Option, Some, None, Result, Ok, Err, IsSome}
use Rattle.tn_text.specs.Watch.{watched_inner, has_failed, is_flushed}
use Rattle.tn_text.specs.declared.watched.Watched.{Watched}

-- the fault, where the answer is one
abbrev pub error_of : {X E : Type 0} → Result X E → Option E
error_of (Ok x) = None
error_of (Err e) = Some e

-- neither answer is a fault, or both are the same
abbrev pub EndAlike : {X E : Type 0} → Result X E → Result X E → Type 0
EndAlike r q = error_of r ≡ error_of q

-- the reader or writer tells its bytes, by this function
abbrev pub Knows : {T : Type 0} → (T → Option (List ℕ)) → Watched T → Type 0
Knows known w = IsSome (known (watched_inner w))

-- both tell the same bytes, or neither does
abbrev pub TellAlike : {T : Type 0} → (T → Option (List ℕ)) → Watched T → Watched T → Type 0
TellAlike known one other = known (watched_inner one) ≡ known (watched_inner other)

-- and of both a call has failed, or of neither; and all that both took was flushed, or of neither
pub record SeenAlike {T : Type 0} (known : T → Option (List ℕ)) (one other : Watched T) : Type 0 where
  pub reported : TellAlike known one other
  pub failed : has_failed one ≡ has_failed other
  pub flushed : is_flushed one ≡ is_flushed other

-- where both answers end alike, two writers that told their bytes tell the same ones
abbrev pub WriteAlike : {T X E : Type 0} → (T → Option (List ℕ)) → (old one other : Watched T) → Result X E → Result X E → Type 0
WriteAlike known old one other r q = Knows known old → EndAlike r q → TellAlike known one other
