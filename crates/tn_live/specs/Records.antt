-- What a seat and a book keep.
use Rattle.std.specs.Prelude.{◌≡◌, ℕ, ◌<◌, true, false, Bool, List, [], length, map, get_or, Option, Some, None}
use Rattle.def_script.specs.Program.{Program}
use Rattle.tn_trace.specs.Cores.{core_of}
use Rattle.tn_live.specs.declared.entry.Entry.{Entry}
use Rattle.tn_live.specs.declared.record.Seen.{Seen}
use Rattle.tn_live.specs.declared.record.Record.{Record}
use Rattle.tn_live.specs.Journal.{picks_of, made_by, last_by}
use Rattle.tn_live.specs.States.{IsJournal}
use Rattle.tn_live.specs.Places.{item_places}

-- what a seat has seen is a journal of the program, with as many entries of the seat as it made, the last of them there
pub record IsSeen {A J : Type 0} (program : Program) (s : Seen A J) : Type 0 where
  pub reached : s.front ≡ s.entries.items
  pub numbered : s.number < 16
  pub moved : IsJournal program s.entries.items
  pub counted : s.made ≡ made_by s.number s.entries.items
  pub latest : s.last ≡ last_by s.number s.entries.items

-- for each seat how many entries it made
abbrev pub CountsMade : List ℕ → List Entry → Type 0
CountsMade counts entries = (seat d : ℕ) → seat < 16 → get_or counts seat d ≡ made_by seat entries

-- the core is that of the program and of the entries, each of which moved; the messages of each answer are at these places, and each seat's entries are counted
pub record IsRecord {A J : Type 0} (program : Program) (r : Record A J) : Type 0 where
  pub reached : r.front ≡ r.entries.items
  pub core : r.core ≡ core_of program (picks_of r.entries.items)
  pub moved : IsJournal program r.entries.items
  pub placed : map (λ v. v.items) r.places.items ≡ item_places program (picks_of r.entries.items) (length r.entries.items)
  pub counted : CountsMade r.counts r.entries.items

-- a book is spent, or it has a record of the program
abbrev pub RecordHolds : {A J : Type 0} → Program → Option (Record A J) → Type 0
RecordHolds program None = Unit {0}
RecordHolds program (Some r) = IsRecord program r

abbrev pub is_spent : {A J : Type 0} → Option (Record A J) → Bool
is_spent None = true
is_spent (Some r) = false

abbrev pub record_entries : {A J : Type 0} → Option (Record A J) → List Entry
record_entries None = []
record_entries (Some r) = r.entries.items
