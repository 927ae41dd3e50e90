-- When a job has one answer, and two of its ends are the same.
use Rattle.std.specs.Prelude.{◌≡◌, ◌⊎◌, ℕ, List, Option, IfOk, is_ok}
use Rattle.std.specs.Process.{exit_status}
use Rattle.tn_text.specs.Watch.{is_flushed}
use Rattle.tn_text.specs.declared.watched.Watched.{Watched}
use Rattle.tn_run.specs.Jobs.{Gives, JobView}
use Rattle.tn_run.specs.declared.live.Ran.{Ran}
use Rattle.tn_command.specs.declared.status.JobEnd.{JobEnd}
use Rattle.complete_workers.specs.Ends.{WriteAlike}
use Rattle.complete_workers.specs.Runs.{LeaveAlike, MeetNoWriteFault, RunAlike}

-- the job gives one outcome and one output for any bytes, and where it gives one it either reads them or doesn't
pub record HasOneAnswer {O F : Type 0} (job : JobView O F) : Type 0 where
  pub answer : (bytes : List ℕ) (o u : O) (x y : List ℕ) → Gives job bytes o x → Gives job bytes u y → (o ≡ u) × (x ≡ y)
  pub reads : (bytes : List ℕ) (o : O) (x : List ℕ) → Gives job bytes o x → job.reads ⊎ (job.reads → ⊥)

-- ---- of two ends

-- the outcomes are one, where both are
abbrev pub AnswerAlike : {O F : Type 0} → JobEnd O F → JobEnd O F → Type 0
AnswerAlike a b = IfOk a.answer (λ o. IfOk b.answer (λ p. o ≡ p))

-- where both are outcomes, or both are faults, the statuses are one
abbrev pub HaveOneStatus : {O F : Type 0} → JobEnd O F → JobEnd O F → Type 0
HaveOneStatus a b = is_ok a.answer ≡ is_ok b.answer → exit_status a.status ≡ exit_status b.status

-- where both answers end alike, two writers that told their bytes tell the same ones
abbrev pub GainAlike : {T O F : Type 0} → (T → Option (List ℕ)) → (old one other : Watched T) → JobEnd O F → JobEnd O F → Type 0
GainAlike gained old one other a b = WriteAlike gained old one other a.answer b.answer

-- and where no write failed, both were flushed or neither
abbrev pub FlushAlike : {T O F : Type 0} → JobView O F → (one other : Watched T) → JobEnd O F → JobEnd O F → Type 0
FlushAlike job one other a b = MeetNoWriteFault job.end_of a.answer b.answer → is_flushed one ≡ is_flushed other

-- where the readers told their bytes and both read all of them, they tell the same afterwards
abbrev pub RemainAlike : {T O F : Type 0} → JobView O F → (T → Option (List ℕ)) → (old one other : Watched T) → JobEnd O F → JobEnd O F → Type 0
RemainAlike job known old one other a b = LeaveAlike job.end_of known old one other a.answer b.answer

-- ---- of two ends of a run by workers

-- where both made the same, two writers that told their bytes tell the same ones
abbrev pub WorkAlike : {T F : Type 0} → JobView Ran F → (T → Option (List ℕ)) → (old one other : Watched T) → JobEnd Ran F → JobEnd Ran F → Type 0
WorkAlike job gained old one other a b = RunAlike job.end_of gained old one other a.answer b.answer
