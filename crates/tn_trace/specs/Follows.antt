-- A run by some picks, of which no more than its limit move.
use Rattle.std.specs.Prelude.{◌≡◌, ℕ, List, [], ◌∷◌, ◌++◌, take, Result, OnOk}
use Rattle.std.specs.declared.alloc.AllocError.{AllocError}
use Rattle.def_script.specs.Program.{Program}
use Rattle.def_run.specs.Run.{moves}
use Rattle.tn_program.specs.Views.{program_of}
use Rattle.tn_program.specs.declared.parts.Program as code
use Rattle.tn_trace.specs.Runs.{IsRun}
use Rattle.tn_trace.specs.declared.run.Run.{Run}

-- the run is that of the first picks that moved, at most the limit's number of them
abbrev pub Follows : {A O : Type 0} → (O → Program → List ℕ → Type 0) → Program → ℕ → List ℕ → Run A O → Type 0
Follows Seen p limit picks r = IsRun Seen p limit (take limit (moves p picks)) r

-- after more picks it is that of all of them
abbrev pub FollowsMore : {A O : Type 0} → (O → Program → List ℕ → Type 0) → code.Program A → List ℕ → Run A O → Run A O → Result (Unit {0}) AllocError → Type 0
FollowsMore Seen program more old new result =
    (limit : ℕ) (before : List ℕ) → Follows Seen (program_of program) limit before old → OnOk result (Follows Seen (program_of program) limit (before ++ more) new)

-- after these picks the observer saw more, and added what it adds of each
abbrev pub AddsEach : {O G : Type 0} → (Program → List ℕ → ℕ → O → O → G → G → Type 0) → Program → List ℕ → List ℕ → O → O → G → G → Type 0
AddsEach Adds p picks [] old new out out' = (new ≡ old) × (out' ≡ out)
AddsEach {O} {G} Adds p picks (pick ∷ more) old new out out' = (mid : O) × (between : G) × Adds p picks pick old mid out between × AddsEach Adds p (picks ++ pick ∷ []) more mid new between out'

-- it saw the picks by which the second list is longer than the first
pub record AddsFrom {O G : Type 0} (Adds : Program → List ℕ → ℕ → O → O → G → G → Type 0) (p : Program) (first second : List ℕ) (old new : O) (out out' : G) : Type 0 where
  pub more : List ℕ
  pub longer : second ≡ first ++ more
  pub added : AddsEach Adds p first more old new out out'

-- of more picks it saw those that moved
abbrev pub AddsMore : {A O G : Type 0} → (O → Program → List ℕ → Type 0) → (Program → List ℕ → ℕ → O → O → G → G → Type 0) → code.Program A → List ℕ → Run A O → Run A O → G → G → Result (Unit {0}) AllocError → Type 0
AddsMore Seen Adds program more old new out out' result =
    (limit : ℕ) (before : List ℕ) → let p : Program = program_of program in Follows Seen p limit before old
    → OnOk result (AddsFrom Adds p (take limit (moves p before)) (take limit (moves p (before ++ more))) old.observer new.observer out out')
