-- What a reader or a writer keeps of its calls (own).
use Rattle.std.specs.Prelude.{◌≡◌, ℕ, List, ◌++◌, take, Option, Some, Result, Ok, Err, MatchResult}
use Rattle.std.specs.declared.io.Error.{Error}
use Rattle.std.specs.Io.KnownBytes.{ReadConsumes, WriteAppends}
use Rattle.tn_command.specs.declared.last_error.LastError.{LastError}
use Rattle.tn_command.specs.declared.tee.Tee.{Tee}

-- the reader or writer inside
abbrev pub last_error_inner : {T : Type 0} → LastError T → T
last_error_inner n = n.inner

-- the error of the last call that failed
abbrev pub last_error_of : {T : Type 0} → LastError T → Option Error
last_error_of n = n.error

-- the error of a call that failed, or else the one that was kept before it
abbrev pub latest : {X E : Type 0} → Result X E → Option E → Option E
latest (Ok x) kept = kept
latest (Err e) kept = Some e

-- the reader or writer inside
abbrev pub tee_inner : {R A : Type 0} → Tee R A → R
tee_inner r = r.inner

-- the bytes that were read or written
abbrev pub tee_text : {R A : Type 0} → Tee R A → List ℕ
tee_text r = r.text.items

-- the bytes that a call read or wrote are kept after those before; a call that failed has none
abbrev pub Records : {E : Type 0} → List ℕ → List ℕ → Result ℕ E → List ℕ → Type 0
Records old new r bytes = MatchResult r (λ n. new ≡ old ++ take n bytes) (λ _. new ≡ old)

-- ---- by what gives the reader or writer inside, and the function that tells its known bytes

-- what a read did to the known bytes of the reader inside
abbrev pub ReadsInside : {T I E : Type 0} → (I → Option (List ℕ)) → (T → I) → (old new : T) → Result ℕ E → List ℕ → Type 0
ReadsInside known inner old new result bytes = ReadConsumes (known (inner old)) (known (inner new)) result bytes

-- what a write did to the known bytes of the writer inside
abbrev pub WritesInside : {T I E : Type 0} → (I → Option (List ℕ)) → (T → I) → (old new : T) → Result ℕ E → List ℕ → Type 0
WritesInside known inner old new result bytes = WriteAppends (known (inner old)) (known (inner new)) result bytes
