-- What a turn does to a book's record and to what a seat has seen.
use Rattle.std.specs.Prelude.{◌≡◌, ℕ, ◌<◌, List, [], ◌∷◌, ◌++◌, length, map, Ok, Err, Result, vec_capacity}
use Rattle.def_script.specs.Program.{Program}
use Rattle.def_run.specs.Run.{JOURNAL}
use Rattle.def_run.specs.Laws.{IsIdleAfter}
use Rattle.def_run.specs.Listing.{Item as DefinedItem}
use Rattle.tn_trace.specs.Cores.{MovesOn}
use Rattle.tn_trace.specs.declared.item.StepFault.{StepFault}
use Rattle.tn_trace.specs.declared.item.StepFault.TheVariants.{LimitReached, Spent, OutOfMemory}
use Rattle.tn_live.specs.declared.entry.ItemPlace.{ItemPlace}
use Rattle.tn_live.specs.declared.entry.Turn.{Turn}
use Rattle.tn_live.specs.declared.entry.Turn.TheVariants.{Moved, Idle}
use Rattle.tn_live.specs.declared.entry.Receipt.{Receipt}
use Rattle.tn_live.specs.declared.record.Seen.{Seen}
use Rattle.tn_live.specs.declared.record.Record.{Record}
use Rattle.tn_live.specs.Journal.{entry, picks_of}
use Rattle.tn_live.specs.States.{IsJournal, MovesAfter}
use Rattle.tn_live.specs.Records.{IsSeen, IsRecord, CountsMade}
use Rattle.tn_live.specs.Places.{item_places}
use Rattle.tn_live.specs.SeatTurns.{IsReceipt}

-- only the room of the lists may differ
pub record SameRecord {A J : Type 0} (r q : Record A J) : Type 0 where
  pub front : q.front ≡ r.front
  pub core : q.core ≡ r.core
  pub entries : q.entries.items ≡ r.entries.items
  pub places : q.places.items ≡ r.places.items
  pub counts : q.counts ≡ r.counts

pub record SameSeen {A J : Type 0} (s t : Seen A J) : Type 0 where
  pub front : t.front ≡ s.front
  pub number : t.number ≡ s.number
  pub entries : t.entries.items ≡ s.entries.items
  pub made : t.made ≡ s.made
  pub last : t.last ≡ s.last

-- one more entry has room in the record, and the whole journal with it has room in what the seat has seen
pub record SeatHasRoom {A J : Type 0} (r : Record A J) (s : Seen A J) : Type 0 where
  pub entries : length r.entries.items < vec_capacity r.entries
  pub places : length r.places.items < vec_capacity r.places
  pub seen : length r.entries.items < vec_capacity s.entries

-- the core moved with this answer, and the record does not have the entry yet
pub record HasMoved {A J : Type 0} (program : Program) (pick : ℕ) (r : Record A J) (items : List DefinedItem) : Type 0 where
  pub reached : r.front ≡ r.entries.items
  pub journal : IsJournal program r.entries.items
  pub moved : MovesOn program (picks_of r.entries.items) pick r.core items
  pub placed : map (λ v. v.items) r.places.items ≡ item_places program (picks_of r.entries.items) (length r.entries.items)
  pub counted : CountsMade r.counts r.entries.items

-- the record has one more entry, whose messages stand at these places
pub record AddsEntry {A J : Type 0} (seat pick : ℕ) (new : List ItemPlace) (r q : Record A J) : Type 0 where
  pub front : q.front ≡ q.entries.items
  pub core : q.core ≡ r.core
  pub entries : q.entries.items ≡ r.entries.items ++ entry seat pick ∷ []
  pub places : map (λ v. v.items) q.places.items ≡ map (λ v. v.items) r.places.items ++ new ∷ []
  pub counted : CountsMade q.counts q.entries.items

-- the seat has seen the record's entries whole
pub record ShowsTurn {A J : Type 0} (r : Record A J) (s t : Seen A J) : Type 0 where
  pub front : t.front ≡ r.front
  pub entries : t.entries.items ≡ r.entries.items
  pub number : t.number ≡ s.number
  pub made : t.made ≡ s.made
  pub last : t.last ≡ s.last

-- the entry is in the record, the seat has seen it, and this is its receipt
pub record Enters {A J : Type 0} (program : Program) (pick : ℕ) (r : Record A J) (s : Seen A J) (receipt : Receipt A) (q : Record A J) (t : Seen A J) : Type 0 where
  pub room : length r.entries.items < JOURNAL
  pub moves : MovesAfter program r.entries.items pick
  pub record_is : IsRecord program q
  pub seen_is : IsSeen program t
  pub number : t.number ≡ s.number
  pub added : q.entries.items ≡ r.entries.items ++ entry s.number pick ∷ []
  pub shown : t.entries.items ≡ q.entries.items
  pub receipt_is : IsReceipt program s.number r.entries.items pick receipt

-- the record is as it was, and the seat has seen it whole
pub record Rests {A J : Type 0} (program : Program) (r : Record A J) (s : Seen A J) (q : Record A J) (t : Seen A J) : Type 0 where
  pub record_is : IsRecord program q
  pub seen_is : IsSeen program t
  pub number : t.number ≡ s.number
  pub same : q.entries.items ≡ r.entries.items
  pub shown : t.entries.items ≡ r.entries.items

-- what a turn answers
abbrev pub IsTurnOf : {A J : Type 0} → Program → ℕ → Record A J → Seen A J → Result (Turn A) StepFault → Record A J → Seen A J → Type 0
IsTurnOf p pick r s (Ok (Moved receipt)) q t = Enters p pick r s receipt q t
IsTurnOf p pick r s (Ok (Idle front)) q t =
    Rests p r s q t × (length r.entries.items < JOURNAL) × IsIdleAfter p (picks_of r.entries.items) pick × (front ≡ length r.entries.items)
IsTurnOf p pick r s (Err LimitReached) q t = Rests p r s q t × (length r.entries.items ≡ JOURNAL)
IsTurnOf p pick r s (Err Spent) q t = ⊥
IsTurnOf p pick r s (Err OutOfMemory) q t = SameSeen s t

-- what a move answers, whose entry the record does not have yet
abbrev pub MoveEnters : {A J : Type 0} → Program → ℕ → Record A J → Seen A J → Result (Turn A) StepFault → Record A J → Seen A J → Type 0
MoveEnters p pick r s (Ok (Moved receipt)) q t = Enters p pick r s receipt q t
MoveEnters p pick r s (Ok (Idle front)) q t = ⊥
MoveEnters p pick r s (Err LimitReached) q t = ⊥
MoveEnters p pick r s (Err Spent) q t = ⊥
MoveEnters p pick r s (Err OutOfMemory) q t = SameSeen s t
