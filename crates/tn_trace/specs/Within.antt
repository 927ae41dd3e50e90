-- Runs through more picks, whose observer may have so much.
use Rattle.std.specs.Prelude.{◌≡◌, ℕ, List, ◌++◌, take, Result, IfOk}
use Rattle.std.specs.declared.alloc.AllocError.{AllocError}
use Rattle.def_script.specs.Program.{Program}
use Rattle.def_run.specs.Run.{moves}
use Rattle.tn_program.specs.Views.{program_of}
use Rattle.tn_program.specs.declared.parts.Program as code
use Rattle.tn_trace.specs.Follows.{Follows, AddsFrom}
use Rattle.tn_trace.specs.declared.run.Extent.{Extent}
use Rattle.tn_trace.specs.declared.run.Extent.TheVariants.{All, TooMuch}
use Rattle.tn_trace.specs.declared.run.Run.{Run}

-- the first of more picks that were taken: all of them, or as many as come before others
abbrev pub AreTaken : Extent → (more front : List ℕ) → Type 0
AreTaken All more front = front ≡ more
AreTaken TooMuch more front = (rest : List ℕ) × (more ≡ front ++ rest)

-- the observer has no more than it may have after all of them; or it has more
abbrev pub IsBounded : Extent → Type 0 → Type 0
IsBounded All exceeds = exceeds → ⊥
IsBounded TooMuch exceeds = exceeds

-- the run is that of the first of more picks, whose moves the observer saw and added to
pub record EndsWithin {A O G : Type 0} (Seen : O → Program → List ℕ → Type 0) (Adds : Program → List ℕ → ℕ → O → O → G → G → Type 0) (Exceeds : O → Type 0) (p : Program) (limit : ℕ) (before more : List ℕ) (old new : Run A O) (out out' : G) (extent : Extent) : Type 0 where
  pub front : List ℕ
  pub taken : AreTaken extent more front
  pub follows : Follows Seen p limit (before ++ front) new
  pub added : AddsFrom Adds p (take limit (moves p before)) (take limit (moves p (before ++ front))) old.observer new.observer out out'
  pub bounded : IsBounded extent (Exceeds new.observer)

-- whatever picks were taken before, where the observer had no more than it may have
abbrev pub TakesWithin : {A O G : Type 0} → (O → Program → List ℕ → Type 0) → (Program → List ℕ → ℕ → O → O → G → G → Type 0) → (O → Type 0) → code.Program A → List ℕ → Run A O → Run A O → G → G → Result Extent AllocError → Type 0
TakesWithin Seen Adds Exceeds program more old new out out' result =
    (limit : ℕ) (before : List ℕ) → Follows Seen (program_of program) limit before old → (Exceeds old.observer → ⊥)
    → IfOk result (EndsWithin Seen Adds Exceeds (program_of program) limit before more old new out out')
