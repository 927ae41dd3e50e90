-- How a worker ends: which token it keeps, what its end of the run queue then holds, and by which fault.
-- Depends on what a worker has, and on what an end holds after it gave a token up.
use Rattle.std.specs.Prelude.{◌≡◌, ◌⊎◌, ℕ, Bool, true, false, List, [], length, Option, Some, None, IfSome, IsSome}
use Rattle.std.specs.Option.{option_to_list}
use Rattle.def_run.specs.Run.{JOURNAL}
use Rattle.def_turns.specs.Moments.{GivesTurn}
use Rattle.tn_trace.specs.declared.item.StepFault.{StepFault}
use Rattle.tn_trace.specs.declared.item.StepFault.TheVariants.{LimitReached, Spent, OutOfMemory}
use Rattle.tn_pool.specs.declared.report.PoolFault.{PoolFault}
use Rattle.tn_pool.specs.declared.report.PoolFault.TheVariants.{Step, Memory}
use Rattle.tn_pool.specs.declared.worker.Worker.{Worker}

-- a full journal ends a worker, and is no fault
abbrev pub IsNoFullJournal : PoolFault → Type 0
IsNoFullJournal (Step LimitReached) = ⊥
IsNoFullJournal (Step Spent) = Unit {0}
IsNoFullJournal (Step OutOfMemory) = Unit {0}
IsNoFullJournal Memory = Unit {0}

-- the fault of a worker whose step was answered this
abbrev pub ending_fault : StepFault → Option PoolFault
ending_fault LimitReached = None
ending_fault Spent = Some (Step Spent)
ending_fault OutOfMemory = Some (Step OutOfMemory)

-- the first of two faults, if any
abbrev pub first_fault : (first later : Option PoolFault) → Option PoolFault
first_fault None later = later
first_fault (Some fault) later = Some fault

-- the worker has no fault and keeps no token, and its end holds none
pub record IsReady {A J : Type 0} (held : List ℕ) (w : Worker A J) : Type 0 where
  pub holds_none : held ≡ []
  pub keeps_none : w.kept ≡ None
  pub unfailed : w.fault ≡ None

-- the worker's end holds the token that it keeps, and no other; where it keeps one it has a fault
pub record IsAccounted {A J : Type 0} (held : List ℕ) (w : Worker A J) : Type 0 where
  pub holds_kept : held ≡ option_to_list w.kept
  pub faulted : IsSome w.kept → IsSome w.fault
  pub real : IfSome w.fault IsNoFullJournal

-- the worker has seen a full journal, or has a fault
abbrev pub HasCause : {A J : Type 0} → Worker A J → Type 0
HasCause w = (length w.seat.seen ≡ JOURNAL) ⊎ IsSome w.fault

-- after a step the worker goes on, with no fault more; or it ends, since the journal is full, or by this fault
abbrev pub WorkerStepsOn : {A J : Type 0} → Bool → (old new : Worker A J) → Type 0
WorkerStepsOn true old new = (new.kept ≡ old.kept) × (new.fault ≡ old.fault)
WorkerStepsOn false old new =
    (new.kept ≡ old.kept)
    × (((length new.seat.seen ≡ JOURNAL) × (new.fault ≡ None)) ⊎ ((fault : PoolFault) × (new.fault ≡ Some fault) × IsNoFullJournal fault))

-- the worker's end gave the token up; or the worker keeps the same token, which its end still holds, and has a fault
abbrev pub GivesBack : {A J : Type 0} → Bool → (token : ℕ) → (held : List ℕ) → Worker A J → (held' : List ℕ) → Worker A J → Type 0
GivesBack true token held old held' new = GivesTurn held token held' × (new.kept ≡ old.kept) × (new.fault ≡ old.fault)
GivesBack false token held old held' new = (held' ≡ held) × (new.kept ≡ Some token) × (new.fault ≡ first_fault old.fault (Some Memory))

-- after a turn the worker is as ready as before; or it has ended, for a cause
abbrev pub TurnsOn : {A J : Type 0} → Bool → List ℕ → Worker A J → Type 0
TurnsOn true held w = IsReady held w
TurnsOn false held w = IsAccounted held w × HasCause w
