-- The exit status of a job, and what it says was written (own).
use Rattle.std.specs.Prelude.{◌≡◌, ◌==◌, ◌&&◌, ℕ, ◌⊎◌, Bool, true, false, not, if◌then◌else◌, List, Option, Result, Ok, Err, IfOk}
use Rattle.std.specs.Process.{exit_status}
use Rattle.std.specs.declared.process.ExitCode.{ExitCode}
use Rattle.tn_text.specs.Watch.{watched_inner, has_failed}
use Rattle.tn_text.specs.declared.watched.Watched.{Watched}
use Rattle.tn_run.specs.Jobs.{JobView, Writes}
use Rattle.tn_refusal.specs.declared.refusal.Denial.{Denial}

abbrev pub LISTED_STATUS : ℕ
LISTED_STATUS = 0

abbrev pub UNMET_STATUS : ℕ
UNMET_STATUS = 1

abbrev pub REFUSED_STATUS : ℕ
REFUSED_STATUS = 2

abbrev pub FAULT_STATUS : ℕ
FAULT_STATUS = 3

-- 0 for an outcome that was asked for, 2 for a refusal or what is lacking, 3 for a fault of any kind
abbrev pub status_of : {O F : Type 0} → JobView O F → Result O F → ℕ
status_of job (Ok outcome) = if job.succeeds outcome then LISTED_STATUS else REFUSED_STATUS
status_of job (Err fault) = FAULT_STATUS

-- one of the four
abbrev pub IsStatus : ℕ → Type 0
IsStatus n = (n ≡ LISTED_STATUS) ⊎ ((n ≡ REFUSED_STATUS) ⊎ ((n ≡ FAULT_STATUS) ⊎ (n ≡ UNMET_STATUS)))

-- 1 where the status so far is 0 and the output isn't what it must be, else the status so far
abbrev pub status_after_judgement : ℕ → Bool → ℕ
status_after_judgement n is_met = if n == LISTED_STATUS && not is_met then UNMET_STATUS else n

-- 1 where the status so far is 0 and there is a flaw, and 3 where it is 0 and there was no memory to say whether there is
abbrev pub status_by_flaw : {E : Type 0} → ℕ → Result Bool E → ℕ
status_by_flaw n (Ok flawed) = status_after_judgement n (not flawed)
status_by_flaw n (Err e) = if n == LISTED_STATUS then FAULT_STATUS else n

-- the status of a strict command line, by whether there is such a flaw; of another the status so far
abbrev pub IsStrictStatus : (strict : Bool) → (Bool → Type 0) → ℕ → ℕ → Type 0
IsStrictStatus true flaw n m = (flawed : Result Bool Denial) × IfOk flawed flaw × (m ≡ status_by_flaw n flawed)
IsStrictStatus false flaw n m = m ≡ n

-- and then after what the output must be
abbrev pub IsStrictJudgement : (strict : Bool) → (Bool → Type 0) → ℕ → (is_met : Bool) → ℕ → Type 0
IsStrictJudgement strict flaw n is_met m = (k : ℕ) × IsStrictStatus strict flaw n k × (m ≡ status_after_judgement k is_met)

-- none that tells of success
abbrev pub IsFailure : ℕ → Type 0
IsFailure n = (n ≡ REFUSED_STATUS) ⊎ (n ≡ FAULT_STATUS)

-- with status 0 the output that was asked for was written, and with 2 that of an outcome that wasn't, as a refusal's line
pub record IsWrittenAs {O F : Type 0} (job : JobView O F) (n : ℕ) (bytes old new : Option (List ℕ)) : Type 0 where
  pub listed : n ≡ LISTED_STATUS → (outcome : O) × (job.succeeds outcome ≡ true) × Writes job bytes old new outcome
  pub refused : n ≡ REFUSED_STATUS → (outcome : O) × (job.succeeds outcome ≡ false) × Writes job bytes old new outcome

-- ---- of a watched reader and writer, each with the function that tells the known bytes of what is watched

-- the writer has gained what the exit status says
abbrev pub WroteAs : {R W O F : Type 0} → JobView O F → ExitCode → (R → Option (List ℕ)) → Watched R → (W → Option (List ℕ)) → (old new : Watched W) → Type 0
WroteAs job status known reader gained old new =
    IsWrittenAs job (exit_status status) (known (watched_inner reader)) (gained (watched_inner old)) (gained (watched_inner new))

-- with the status of a fault the writer is as it was, or has failed
abbrev pub OnFaultUntouchedOrFailed : {W : Type 0} → ExitCode → (old new : Watched W) → Type 0
OnFaultUntouchedOrFailed status old new = exit_status status ≡ FAULT_STATUS → (new ≡ old) ⊎ (has_failed new ≡ true)
