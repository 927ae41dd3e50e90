-- What is promised of the account of an accepted script (own).
-- Depends on scripts, on listings and on the account of a run.
use Rattle.std.specs.Prelude.{◌≡◌, ℕ, List, All}
use Rattle.def_script.specs.Program.{Program}
use Rattle.def_script.specs.Script.{IsScript, creations}
use Rattle.def_run.specs.Listing.{messages}
use Rattle.def_explain.specs.Runs.{entries, reported_by}
use Rattle.def_explain.specs.RunLaws.{IsOnce}

-- an accepted script creates each of its sessions once
abbrev pub EachSessionIsCreatedOnce : Type 0
EachSessionIsCreatedOnce = (bytes : List ℕ) (p : Program) → IsScript bytes p → All (λ s. IsOnce s.0 (creations p.commands)) (creations p.commands)

-- what each of them reports in the account of a run is its listing
abbrev pub EachAccountIsTheListing : Type 0
EachAccountIsTheListing = (bytes : List ℕ) (p : Program) (picks : List ℕ) → IsScript bytes p → All (λ s. reported_by s.0 (entries p picks) ≡ messages s.0 p picks) (creations p.commands)
