-- What many workers do, and what is reported of it.
-- Depends on what one worker earns.
use Rattle.std.specs.Prelude.{◌≡◌, ◌≢◌, ◌+◌, ◌*◌, ◌≤◌, ◌<◌, ℕ, List, [], ◌∷◌, ◌++◌, length, map, slice_index_or, vec_len, vec_capacity, All, Option, Some, None, IfSome, IsSome}
use Rattle.std.specs.Option.{option_to_list}
use Rattle.def_script.specs.Program.{Program}
use Rattle.tn_live.specs.declared.entry.Receipt.{Receipt}
use Rattle.tn_live.specs.States.{SeatState}
use Rattle.tn_pool.specs.declared.worker.Worker.{Worker}
use Rattle.tn_pool.specs.declared.report.Report.{Report}
use Rattle.tn_pool.specs.declared.report.PoolFault.{PoolFault}
use Rattle.tn_pool.specs.declared.report.PoolFault.TheVariants.{Memory}
use Rattle.tn_pool.specs.Earnings.{Works, WorksFew}
use Rattle.tn_pool.specs.Endings.{IsReady, IsAccounted, IsNoFullJournal, first_fault}

-- a worker with its end of the run queue, which is seen as a view
abbrev pub Member : Type 0 → Type 0 → Type 0
Member A J = List ℕ × Worker A J

abbrev pub seats_of : {A J : Type 0} → List (Member A J) → List SeatState
seats_of members = map (λ m. m.1.seat) members

-- all receipts, by the order of the workers
abbrev pub receipts_of : {A J : Type 0} → List (Member A J) → List (Receipt A)
receipts_of [] = []
receipts_of (m ∷ ms) = m.1.receipts.items ++ receipts_of ms

-- how many receipts there are
abbrev pub member_count : {A J : Type 0} → List (Member A J) → ℕ
member_count [] = 0
member_count (m ∷ ms) = vec_len m.1.receipts + member_count ms

-- the tokens that workers keep, by the order of the workers
abbrev pub member_tokens : {A J : Type 0} → List (Member A J) → List ℕ
member_tokens [] = []
member_tokens (m ∷ ms) = option_to_list m.1.kept ++ member_tokens ms

-- the fault of the first worker that has one
abbrev pub member_fault : {A J : Type 0} → List (Member A J) → Option PoolFault
member_fault [] = None
member_fault (m ∷ ms) = first_fault m.1.fault (member_fault ms)

-- a worker that has no receipt yet, and no fault and no token
abbrev pub IsNew : {A J : Type 0} → Member A J → Type 0
IsNew m = (m.1.receipts.items ≡ []) × (vec_len m.1.receipts ≡ 0) × IsReady m.0 m.1

abbrev pub AreNew : {A J : Type 0} → List (Member A J) → Type 0
AreNew members = All IsNew members

-- the worker has worked, and its end holds at most the token that it keeps
pub record HasWorked {A J : Type 0} (p : Program) (most : ℕ) (old new : Member A J) : Type 0 where
  pub works : WorksFew p most old.1 new.1
  pub accounted : IsReady old.0 old.1 → IsAccounted new.0 new.1

-- the worker at this place has worked
abbrev pub WorksAt : {A J : Type 0} → Program → ℕ → List (Member A J) → List (Member A J) → ℕ → Member A J → Type 0
WorksAt p most old new i d = HasWorked p most (slice_index_or old i d) (slice_index_or new i d)

-- each worker has worked
abbrev pub EachWorks : {A J : Type 0} → Program → ℕ → List (Member A J) → List (Member A J) → Type 0
EachWorks {A} {J} p most old new = (i : ℕ) (d : Member A J) → i < length old → WorksAt p most old new i d

-- the report has no seat, no receipt, no token and no fault yet
pub record IsEmptyReport {A J : Type 0} (r : Report A J) : Type 0 where
  pub seats : r.seats.items ≡ []
  pub receipts : r.receipts.items ≡ []
  pub tokens : r.tokens.items ≡ []
  pub unfailed : r.fault ≡ None

-- no turn was taken, since memory was refused
pub record IsNothingDone {A J : Type 0} (r : Report A J) : Type 0 where
  pub receipts : r.receipts.items ≡ []
  pub tokens : r.tokens.items ≡ []
  pub refused : r.fault ≡ Some Memory

-- it has room for so many more seats and tokens, and so many more receipts
pub record ReportHasRoom {A J : Type 0} (workers earned : ℕ) (r : Report A J) : Type 0 where
  pub seats : vec_len r.seats + workers ≤ vec_capacity r.seats
  pub receipts : vec_len r.receipts + earned ≤ vec_capacity r.receipts
  pub tokens : vec_len r.tokens + workers ≤ vec_capacity r.tokens

-- the report has the worker's seat, receipts and token too, in the room that there was, and its fault where it had none
pub record AddsWorker {A J : Type 0} (w : Worker A J) (old new : Report A J) : Type 0 where
  pub seats : new.seats.items ≡ old.seats.items ++ w.seat ∷ []
  pub receipts : new.receipts.items ≡ old.receipts.items ++ w.receipts.items
  pub tokens : new.tokens.items ≡ old.tokens.items ++ option_to_list w.kept
  pub fault : new.fault ≡ first_fault old.fault w.fault
  pub seats_room : (vec_len new.seats ≡ vec_len old.seats + 1) × (vec_capacity new.seats ≡ vec_capacity old.seats)
  pub receipts_room : (vec_len new.receipts ≡ vec_len old.receipts + vec_len w.receipts) × (vec_capacity old.receipts ≤ vec_capacity new.receipts)
  pub tokens_room : (vec_len new.tokens ≤ vec_len old.tokens + 1) × (vec_capacity new.tokens ≡ vec_capacity old.tokens)

-- all seats come back in their order, and the receipts are those that each seat has earned, in the same order
abbrev pub Reports : {A : Type 0} → Program → List SeatState → List SeatState → List (Receipt A) → Type 0
Reports p [] back receipts = (back ≡ []) × (receipts ≡ [])
Reports {A} p (s ∷ seats) back receipts =
    (t : SeatState) × (more : List SeatState) × (earned : List (Receipt A)) × (rest : List (Receipt A)) × (back ≡ t ∷ more) × (receipts ≡ earned ++ rest)
    × Works p s t earned × Reports p seats more rest

-- there are at most so many receipts for each seat, and one token for each; where there is a token there is a fault, and no fault is a full journal
pub record TellsEndings {A J : Type 0} (seats turns : ℕ) (r : Report A J) : Type 0 where
  pub few : length r.receipts.items ≤ seats * turns
  pub tokens : length r.tokens.items ≤ seats
  pub faulted : r.tokens.items ≢ [] → IsSome r.fault
  pub real : IfSome r.fault IsNoFullJournal
