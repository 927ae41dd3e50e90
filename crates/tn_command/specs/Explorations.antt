-- How a command ends that explores all schedules (own).
-- Depends on the exploration of a program, and on the exit status of a job.
use Rattle.std.specs.Prelude.{◌≡◌, ◌⊎◌, ℕ, List, Option, Some, None, unwrap_or, Result, Ok, Err, IfOk, OnErr}
use Rattle.tn_run.specs.Jobs.{JobView, Writes, WritesSome}
use Rattle.tn_exploration.specs.declared.request.ExploreOutcome.{ExploreOutcome}
use Rattle.tn_exploration.specs.declared.request.ExploreOutcome.TheVariants.{Complete, Incomplete, Unmet, NoSession, Refused}
use Rattle.tn_command.specs.Status.{IsStatus, UNMET_STATUS, status_of}

abbrev pub INCOMPLETE_STATUS : ℕ
INCOMPLETE_STATUS = 4

-- the status of an exploration that was written: 1 where what is demanded of a pattern is refuted, 4 where not all states were tried
abbrev pub search_status : {F : Type 0} → Result ExploreOutcome F → Option ℕ
search_status (Ok Complete) = None
search_status (Ok Incomplete) = Some INCOMPLETE_STATUS
search_status (Ok Unmet) = Some UNMET_STATUS
search_status (Ok NoSession) = None
search_status (Ok (Refused r)) = None
search_status (Err fault) = None

-- it, or the status so far where there is none
abbrev pub status_after_search : (n : ℕ) → Option ℕ → ℕ
status_after_search n status = unwrap_or status n

-- one of the five
abbrev pub IsExplorationStatus : ℕ → Type 0
IsExplorationStatus n = IsStatus n ⊎ (n ≡ INCOMPLETE_STATUS)

-- the job has an answer, whose output the writer has gained, and whose status this is; with a fault nothing was gained, or some first bytes of an output of the reader's bytes
pub record IsExplorationPrinted {F : Type 0} (job : JobView ExploreOutcome F) (bytes old new : Option (List ℕ)) (n : ℕ) : Type 0 where
  pub answer : Result ExploreOutcome F
  pub written : IfOk answer (Writes job bytes old new)
  pub on_fault : OnErr answer ((new ≡ old) ⊎ ((k : ℕ) × WritesSome job bytes old new k))
  pub status_is : n ≡ status_after_search (status_of job answer) (search_status answer)
