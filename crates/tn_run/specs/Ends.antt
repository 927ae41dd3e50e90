-- What reading a text and writing an output do to the known bytes of a reader and a writer.
use Rattle.std.specs.Prelude.{◌≡◌, ℕ, ◌+◌, ◌≤◌, ◌<◌, List, length, take, Option, Result, IsErrOf}
use Rattle.std.specs.Io.KnownBytes.{Consumes, Appends, IsAtEnd}
use Rattle.def_text.specs.Spelling.{LENGTH}
use Rattle.tn_text.specs.Watch.{watched_inner}
use Rattle.tn_text.specs.declared.watched.Watched.{Watched}
use Rattle.tn_run.specs.declared.fault.RunFault.{RunFault}
use Rattle.tn_run.specs.declared.fault.RunFault.TheVariants.{Write, OutOfMemory}

-- a text's bytes, and one more
abbrev pub full : ℕ
full = LENGTH + 1

-- the bytes are gone from the reader: all that it had, or the first `full` of them
pub record TakesText (old new : Option (List ℕ)) (bytes : List ℕ) : Type 0 where
  pub consumed : Consumes old new bytes
  pub within : length bytes ≤ full
  pub whole : length bytes < full → IsAtEnd new

-- some bytes at its front are gone from the reader, at most `full` of them, and nothing else
pub record TakesFront (old new : Option (List ℕ)) : Type 0 where
  pub bytes : List ℕ
  pub consumed : Consumes old new bytes
  pub within : length bytes ≤ full

-- the writer has gained the first n bytes of the output
pub record WritesFront (old new : Option (List ℕ)) (output : List ℕ) (n : ℕ) : Type 0 where
  pub within : n ≤ length output
  pub gained : Appends old new (take n output)

-- ---- faults

-- memory was refused
abbrev pub LacksMemory : RunFault → Type 0
LacksMemory fault = fault ≡ OutOfMemory

-- this holds where a write failed, whatever the number of bytes that were taken
abbrev pub OnWriteFault : {A : Type 0} → Result A RunFault → Type 0 → Type 0
OnWriteFault result holds = (n : ℕ) → IsErrOf result (Write n) → holds

-- ---- of a watched reader or writer, each with the function that tells the known bytes of what is watched

-- the bytes are gone from the reader: all that it had, or the first `full` of them
abbrev pub TookText : {R : Type 0} → (R → Option (List ℕ)) → (old new : Watched R) → List ℕ → Type 0
TookText known old new bytes = TakesText (known (watched_inner old)) (known (watched_inner new)) bytes

-- the writer has gained the output, and nothing else
abbrev pub WroteAll : {W : Type 0} → (W → Option (List ℕ)) → (old new : Watched W) → List ℕ → Type 0
WroteAll known old new output = Appends (known (watched_inner old)) (known (watched_inner new)) output

-- the fault is of a write, and the writer has gained as many bytes of the output as it tells
abbrev pub WroteFront : {W : Type 0} → (W → Option (List ℕ)) → (old new : Watched W) → List ℕ → RunFault → Type 0
WroteFront known old new output fault =
    (n : ℕ) × (fault ≡ Write n) × WritesFront (known (watched_inner old)) (known (watched_inner new)) output n
