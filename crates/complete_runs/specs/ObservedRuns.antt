-- When two runs are one but for what looks on.
use Rattle.std.specs.Prelude.{◌≡◌, ℕ, List, [], ◌∷◌, ◌++◌}
use Rattle.def_term.specs.Tree.{Tree}
use Rattle.def_script.specs.Program.{Program}
use Rattle.tn_trace.specs.Recorders.{HasRecorded}
use Rattle.tn_trace.specs.Runs.{IsRun}
use Rattle.tn_trace.specs.declared.recorder.Recorder.{Recorder}
use Rattle.tn_trace.specs.declared.run.PickOutcome.{PickOutcome}
use Rattle.tn_trace.specs.declared.run.PickOutcome.TheVariants.{Moved, Idle, Full}
use Rattle.tn_trace.specs.declared.run.Run.{Run}

-- both are the program's run by these picks, so that they have one node, one journal and one limit
pub record AreRuns {A O : Type 0} (Seen : O → Program → List ℕ → Type 0) (p : Program) (limit : ℕ) (picks : List ℕ) (one other : Run A O) : Type 0 where
  pub first : IsRun Seen p limit picks one
  pub second : IsRun Seen p limit picks other

-- both recorded the program's run by these picks, so that they have the same sessions and replies
pub record AreRecorders {A K : Type 0} (Keeps : K → List Tree → Type 0) (p : Program) (picks : List ℕ) (one other : Recorder A K) : Type 0 where
  pub first : HasRecorded Keeps one p picks
  pub second : HasRecorded Keeps other p picks

-- the picks that moved after one more, by what that came to
abbrev pub picks_by : PickOutcome → List ℕ → ℕ → List ℕ
picks_by Moved picks pick = picks ++ pick ∷ []
picks_by Idle picks pick = picks
picks_by Full picks pick = picks

-- one more pick came to the same in both, and they are one afterwards
pub record OneMoreAlike {A O : Type 0} (Seen : O → Program → List ℕ → Type 0) (p : Program) (at : ℕ × List ℕ) (pick : ℕ) (one other : Run A O) (a b : PickOutcome) : Type 0 where
  pub outcome : a ≡ b
  pub after : AreRuns Seen p at.0 (picks_by a at.1 pick) one other
