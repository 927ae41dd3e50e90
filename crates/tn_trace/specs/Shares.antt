-- Runs once more: what is so of a slot, a recorder and a run is so of its copy.
use Rattle.std.specs.Prelude.{ℕ, List}
use Rattle.def_term.specs.Alive.{Alive}
use Rattle.def_term.specs.Tree.{Tree}
use Rattle.def_script.specs.Program.{Program}
use Rattle.def_script.specs.Exports.{Exports}
use Rattle.tn_trace.specs.Tracks.{Track}
use Rattle.tn_trace.specs.Slots.{IsTracked}
use Rattle.tn_trace.specs.Recorders.{HasRecorded}
use Rattle.tn_trace.specs.Runs.{IsRun}
use Rattle.tn_trace.specs.declared.slot.Slot.{Slot}
use Rattle.tn_trace.specs.declared.recorder.Recorder.{Recorder}
use Rattle.tn_trace.specs.declared.run.Run.{Run}

-- what is kept of some messages is kept in the copy
abbrev pub KeepsAsMuch : {K : Type 0} → (K → List Tree → Type 0) → K → K → Type 0
KeepsAsMuch {K} Keeps old new = (ts : List Tree) → Keeps old ts → Keeps new ts

-- whichever session with its messages the slot is of, the copy is of that
abbrev pub IsSlotCopy : {A K : Type 0} → (K → List Tree → Type 0) → Slot A K → Slot A K → Type 0
IsSlotCopy Keeps old new = (o : Exports) (living : Alive) (t : Track) → IsTracked Keeps o living t old → IsTracked Keeps o living t new

-- whichever run it recorded, the copy recorded that
abbrev pub IsRecorderCopy : {A K : Type 0} → (K → List Tree → Type 0) → Recorder A K → Recorder A K → Type 0
IsRecorderCopy Keeps old new = (p : Program) (picks : List ℕ) → HasRecorded Keeps old p picks → HasRecorded Keeps new p picks

-- whichever program's run by whichever picks it is, the copy is that
abbrev pub IsRunCopy : {A K : Type 0} → (K → List Tree → Type 0) → Run A (Recorder A K) → Run A (Recorder A K) → Type 0
IsRunCopy Keeps old new = (p : Program) (limit : ℕ) (picks : List ℕ) → IsRun (HasRecorded Keeps) p limit picks old → IsRun (HasRecorded Keeps) p limit picks new
