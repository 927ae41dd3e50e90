-- What the code's runs stand for.
use Rattle.std.specs.Prelude.{◌≡◌, ℕ, min, ◌<◌, ◌≤◌, List, [], ◌∷◌, ◌++◌, length, Some, Result, MatchResult}
use Rattle.std.specs.declared.alloc.AllocError.{AllocError}
use Rattle.def_script.specs.Program.{Program}
use Rattle.def_run.specs.Run.{JOURNAL, moves, run_state_of}
use Rattle.def_run.specs.Laws.{IsIdleAfter, state_at}
use Rattle.tn_node.specs.Nodes.{node_at}
use Rattle.tn_program.specs.Views.{program_of}
use Rattle.tn_program.specs.declared.parts.Program as code
use Rattle.tn_trace.specs.declared.run.PickOutcome.{PickOutcome}
use Rattle.tn_trace.specs.declared.run.PickOutcome.TheVariants.{Moved, Idle, Full}
use Rattle.tn_trace.specs.declared.run.Run.{Run}

-- the run is that of the program after these picks, each of which moved, and what looks on saw them; so many may move
pub record IsRun {A O : Type 0} (Seen : O → Program → List ℕ → Type 0) (p : Program) (limit : ℕ) (picks : List ℕ) (r : Run A O) : Type 0 where
  pub node : r.node ≡ Some (node_at p (state_at p (run_state_of p picks)))
  pub seen : Seen r.observer p picks
  pub journaled : r.journal.items ≡ picks
  pub moved : moves p picks ≡ picks
  pub limited : r.limit ≡ limit
  pub bounded : limit ≤ JOURNAL

-- where the observer is as it is before any pick, the run is that of no pick
abbrev pub StartsRun : {A O : Type 0} → (O → Program → List ℕ → Type 0) → code.Program A → ℕ → O → Run A O → Type 0
StartsRun Seen program limit observer r = let p : Program = program_of program in Seen observer p [] → IsRun Seen p (min limit JOURNAL) [] r

-- what the pick came to: it moved, and the observer saw it; or it moved nothing; or as many as may have moved
abbrev pub Steps : {A O G : Type 0} → (O → Program → List ℕ → Type 0) → (Program → List ℕ → ℕ → O → O → G → G → Type 0) → Program → ℕ → List ℕ → ℕ → PickOutcome → Run A O → Run A O → G → G → Type 0
Steps Seen Adds p limit picks pick Moved old new out out' = (length picks < limit) × IsRun Seen p limit (picks ++ pick ∷ []) new × Adds p picks pick old.observer new.observer out out'
Steps Seen Adds p limit picks pick Idle old new out out' = (length picks < limit) × IsRun Seen p limit picks new × IsIdleAfter p picks pick × (new.observer ≡ old.observer) × (out' ≡ out)
Steps Seen Adds p limit picks pick Full old new out out' = (limit ≤ length picks) × (new ≡ old) × (out' ≡ out)

-- whatever picks led to the run, one more is taken; memory is refused only where another may move
abbrev pub TakesPick : {A O G : Type 0} → (O → Program → List ℕ → Type 0) → (Program → List ℕ → ℕ → O → O → G → G → Type 0) → code.Program A → ℕ → Run A O → Run A O → G → G → Result PickOutcome AllocError → Type 0
TakesPick Seen Adds program pick old new out out' result =
    (limit : ℕ) (picks : List ℕ) → IsRun Seen (program_of program) limit picks old → MatchResult result (λ outcome. Steps Seen Adds (program_of program) limit picks pick outcome old new out out') (λ _. length picks < limit)
