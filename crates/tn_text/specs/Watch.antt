-- What a watched reader or writer tells of itself.
use Rattle.std.specs.Prelude.{ℕ, List, [], ◌∷◌, Bool, true, false, Result, Ok, Err, nat_eq, not}
use Rattle.tn_text.specs.declared.watched.Watched.{Watched}

-- the reader or writer inside
abbrev pub watched_inner : {T : Type 0} → Watched T → T
watched_inner w = w.inner

-- a call of it has failed, or a write of one byte or more took none
abbrev pub has_failed : {T : Type 0} → Watched T → Bool
has_failed w = w.failed

-- a write of `buf` that took no byte of it, or failed
abbrev pub failed_write : {E : Type 0} → Result ℕ E → List ℕ → Bool
failed_write (Err e) buf = true
failed_write (Ok n) [] = false
failed_write (Ok n) (b ∷ buf) = nat_eq n 0

-- no byte was taken since the last flush that did not fail
abbrev pub is_flushed : {T : Type 0} → Watched T → Bool
is_flushed w = w.flushed

-- a write that took a byte
abbrev pub took_bytes : {E : Type 0} → Result ℕ E → Bool
took_bytes (Err e) = false
took_bytes (Ok n) = not (nat_eq n 0)
