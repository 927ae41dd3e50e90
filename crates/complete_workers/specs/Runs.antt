-- When two runs of one script are the same.
use Rattle.std.specs.Prelude.{◌≡◌, ◌≢◌, ℕ, List, Option, Some, None, Result, Ok, Err, IfErr}
use Rattle.std.specs.declared.vec.Vec.{Vec}
use Rattle.tn_text.specs.declared.watched.Watched.{Watched}
use Rattle.tn_refusal.specs.declared.refusal.Denial.{Denial}
use Rattle.tn_refusal.specs.declared.refusal.Denial.TheVariants as denial
use Rattle.tn_refusal.specs.declared.refusal.Refusal.{Refusal}
use Rattle.tn_run.specs.Jobs.{FailedEnd, no_end_failed, reader_failed, writer_failed}
use Rattle.tn_run.specs.declared.outcome.Outcome.{Outcome}
use Rattle.tn_run.specs.declared.outcome.Outcome.TheVariants.{Listed, Refused}
use Rattle.tn_run.specs.declared.live.Ran.{Ran}
use Rattle.complete_workers.specs.Ends.{EndAlike, TellAlike, Knows}

-- the refusal; none where memory was refused
abbrev pub denial_seen : Denial → Option Refusal
denial_seen (denial.Refused r) = Some r
denial_seen denial.OutOfMemory = None

-- ---- jobs

-- the text was read whole: no end failed but the writer
abbrev pub HasReadBy : FailedEnd → Type 0
HasReadBy reader_failed = ⊥
HasReadBy (writer_failed n) = Unit {0}
HasReadBy no_end_failed = ⊥

-- the answer is no fault, or that of a write
abbrev pub HasRead : {O F : Type 0} → (F → FailedEnd) → Result O F → Type 0
HasRead end_of (Ok outcome) = Unit {0}
HasRead end_of (Err fault) = HasReadBy (end_of fault)

-- the fault is of no write
abbrev pub IsOfNoWrite : {F : Type 0} → (F → FailedEnd) → F → Type 0
IsOfNoWrite end_of fault = (n : ℕ) → end_of fault ≢ writer_failed n

-- both answers end alike, and by no fault of a write
abbrev pub MeetNoWriteFault : {O F : Type 0} → (F → FailedEnd) → Result O F → Result O F → Type 0
MeetNoWriteFault end_of r q = EndAlike r q × IfErr r (IsOfNoWrite end_of)

-- where the readers told their bytes and both read all of them, they tell the same afterwards
abbrev pub LeaveAlike : {T O F : Type 0} → (F → FailedEnd) → (T → Option (List ℕ)) → (old one other : Watched T) → Result O F → Result O F → Type 0
LeaveAlike end_of known old one other r q = Knows known old → HasRead end_of r → HasRead end_of q → TellAlike known one other

-- ---- runs by workers

-- both answer the same picks; or the same fault, which is none of a write
abbrev pub MadeAlike : {F : Type 0} → (F → FailedEnd) → Result Ran F → Result Ran F → Type 0
MadeAlike end_of (Ok r) (Ok q) = r.picks.items ≡ q.picks.items
MadeAlike end_of (Ok r) (Err e) = ⊥
MadeAlike end_of (Err e) (Ok q) = ⊥
MadeAlike end_of (Err e) (Err d) = (e ≡ d) × IsOfNoWrite end_of e

-- where both made the same, two writers that told their bytes tell the same ones
abbrev pub RunAlike : {T F : Type 0} → (F → FailedEnd) → (T → Option (List ℕ)) → (old one other : Watched T) → Result Ran F → Result Ran F → Type 0
RunAlike end_of known old one other r q = Knows known old → MadeAlike end_of r q → TellAlike known one other

-- where both made the same picks, their outputs are one
abbrev pub OutputAlike : {A : Type 0} → Ran → (output : List ℕ) → Ran × Vec ℕ A → Type 0
OutputAlike r output q = r.picks.items ≡ q.0.picks.items → output ≡ q.1.items

-- the outcome is a refusal
abbrev pub IsRefusedOutcome : Outcome → Type 0
IsRefusedOutcome Listed = ⊥
IsRefusedOutcome (Refused r) = Unit {0}

-- both answer the same outcome, and where that is a refusal the same picks
pub record AreOfOneText (r q : Ran) : Type 0 where
  pub outcome : r.outcome ≡ q.outcome
  pub picks : IsRefusedOutcome r.outcome → r.picks.items ≡ q.picks.items
