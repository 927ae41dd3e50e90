-- When two turns or two closes are the same, and so is what they leave.
use Rattle.std.specs.Prelude.{◌≡◌, ℕ, List, map, Option, Some, None, Result, Ok, Err, IfOk, IsErrOf}
use Rattle.def_run.specs.Listing.{Item as DefinedItem}
use Rattle.tn_trace.specs.Items.{item_seen}
use Rattle.tn_trace.specs.declared.item.StepFault.{StepFault}
use Rattle.tn_trace.specs.declared.item.StepFault.TheVariants as step
use Rattle.tn_live.specs.declared.entry.Entry.{Entry}
use Rattle.tn_live.specs.declared.entry.Receipt.{Receipt}
use Rattle.tn_live.specs.declared.entry.Turn.{Turn}
use Rattle.tn_live.specs.declared.entry.Turn.TheVariants.{Moved, Idle}
use Rattle.tn_live.specs.declared.live.CloseFault.{CloseFault}
use Rattle.tn_live.specs.declared.live.CloseFault.TheVariants as close
use Rattle.tn_live.specs.States.{BookState, LiveState, SeatState, spent_book}
use Rattle.complete_scripts.specs.Agreement.{Agree, WhereBoth, answer_of}
use Rattle.complete_runs.specs.Alike.{fault_seen}

-- ---- turns

-- what a receipt says
pub record ReceiptState : Type 0 where
  pub seat : ℕ
  pub number : ℕ
  pub pick : ℕ
  pub items : List DefinedItem

abbrev pub receipt_seen : {A : Type 0} → Receipt A → ReceiptState
receipt_seen r = record { seat = r.seat; number = r.number; pick = r.pick; items = map item_seen r.items.items }

-- what a turn says: the receipt of a move, or how many entries the journal had
pub data TurnState : Type 0 where
  receipt : ReceiptState → TurnState
  front : ℕ → TurnState

abbrev pub turn_seen : {A : Type 0} → Turn A → TurnState
turn_seen (Moved r) = receipt (receipt_seen r)
turn_seen (Idle n) = front n

-- what a step of a book answers; nothing where memory was refused
abbrev pub turn_state_seen : {A : Type 0} → Result (Turn A) StepFault → Option (Result TurnState StepFault)
turn_state_seen r = answer_of turn_seen fault_seen r

-- the answers are the same, and so are the books and the seats; where memory was refused, the book is spent and the seat is as it was
pub record TurnAlike {A : Type 0} (s : SeatState) (r : Result (Turn A) StepFault) (one : BookState) (seat : SeatState) (q : Result (Turn A) StepFault) (other : BookState) (same_seat : SeatState) : Type 0 where
  pub answers : Agree (turn_state_seen r) (turn_state_seen q)
  pub books : WhereBoth (turn_state_seen r) (turn_state_seen q) (one ≡ other)
  pub seats : WhereBoth (turn_state_seen r) (turn_state_seen q) (seat ≡ same_seat)
  pub spent : IsErrOf r step.OutOfMemory → one ≡ spent_book
  pub unmoved : IsErrOf r step.OutOfMemory → seat ≡ s

-- a full journal; none for a lock that is spent
abbrev pub full_seen : StepFault → Option StepFault
full_seen step.LimitReached = Some step.LimitReached
full_seen step.Spent = None
full_seen step.OutOfMemory = None

-- what a step under a lock answers; nothing where the lock is spent
abbrev pub take_seen : {A : Type 0} → Result (Turn A) StepFault → Option (Result TurnState StepFault)
take_seen r = answer_of turn_seen full_seen r

-- where both seats have then seen the same, the answers are the same; where the lock is spent, the seat is as it was
pub record TakesAlike {A : Type 0} (s : SeatState) (r : Result (Turn A) StepFault) (seat : SeatState) (q : Result (Turn A) StepFault) (same_seat : SeatState) : Type 0 where
  pub answers : seat.seen ≡ same_seat.seen → Agree (take_seen r) (take_seen q)
  pub numbers : seat.number ≡ same_seat.number
  pub unmoved : take_seen r ≡ None → seat ≡ s

-- ---- closes

-- the missing seat, and what comes back; none where all were handed in
abbrev pub missing_seen : {A J : Type 0} → Result (List Entry) (CloseFault A J) → Option (ℕ × LiveState × List SeatState)
missing_seen (Ok entries) = None
missing_seen (Err close.Spent) = None
missing_seen (Err (close.MissingSeat missing live seats)) = Some (missing, live, seats.items)

-- the same seat is missing, if any, and the same comes back; the closed journals are the same
pub record CloseAlike {A J K : Type 0} (r : Result (List Entry) (CloseFault A J)) (q : Result (List Entry) (CloseFault A K)) : Type 0 where
  pub missing : missing_seen r ≡ missing_seen q
  pub journals : IfOk r (λ entries. IfOk q (λ others. entries ≡ others))
