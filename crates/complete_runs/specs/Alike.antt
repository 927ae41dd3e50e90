-- When two cores or slots are the same after a call, and so are its answers.
use Rattle.std.specs.Prelude.{◌≡◌, List, Option, Some, None, map, Result, Ok, Err, IsErrOf}
use Rattle.std.specs.Borrow.{Bor}
use Rattle.std.specs.Option.{option_map}
use Rattle.def_term.specs.Alive.{Alive}
use Rattle.def_term.specs.Tree.{Tree}
use Rattle.def_script.specs.Program.{Program}
use Rattle.def_script.specs.Exports.{Exports}
use Rattle.def_run.specs.Listing.{Item as DefinedItem}
use Rattle.tn_text.specs.WrittenTrees.{written_tree}
use Rattle.tn_text.specs.declared.written_term.WrittenTerm.{WrittenTerm}
use Rattle.tn_trace.specs.Cores.{CoreValue, spent_core}
use Rattle.tn_trace.specs.Items.{item_seen}
use Rattle.tn_listing.specs.declared.picks.PicksFault.{PicksFault}
use Rattle.tn_listing.specs.declared.picks.PicksFault.TheVariants as picks
use Rattle.tn_trace.specs.Slots.{IsTracked}
use Rattle.tn_trace.specs.Starts.{AreAtStart}
use Rattle.tn_trace.specs.Tracks.{Track}
use Rattle.tn_trace.specs.declared.item.Answer.{Answer}
use Rattle.tn_trace.specs.declared.item.Answer.TheVariants.{Moved, Idle}
use Rattle.tn_trace.specs.declared.item.StepFault.{StepFault}
use Rattle.tn_trace.specs.declared.item.StepFault.TheVariants.{LimitReached, Spent, OutOfMemory}
use Rattle.tn_trace.specs.declared.slot.Slot.{Slot}
use Rattle.tn_trace.specs.declared.transcript_fault.TranscriptFault.{TranscriptFault}
use Rattle.tn_trace.specs.declared.transcript_fault.TranscriptFault.TheVariants as transcripts
use Rattle.complete_scripts.specs.Agreement.{Agree, WhereBoth, answer_of}

-- ---- cores

-- the items of a move; none where nothing moved
abbrev pub answer_seen : {A : Type 0} → Answer A → Option (List DefinedItem)
answer_seen (Moved items) = Some (map item_seen items.items)
answer_seen Idle = None

-- the fault; none where memory was refused
abbrev pub fault_seen : StepFault → Option StepFault
fault_seen LimitReached = Some LimitReached
fault_seen Spent = Some Spent
fault_seen OutOfMemory = None

-- the messages of a listing; none where there is no such session
abbrev pub listing_seen : {A : Type 0} → Option (Bor (List (WrittenTerm A))) → Option (List Tree)
listing_seen v = option_map (λ ts. map written_tree ts.now) v

-- what a step answers; nothing where memory was refused
abbrev pub step_seen : {A : Type 0} → Result (Answer A) StepFault → Option (Result (Option (List DefinedItem)) StepFault)
step_seen r = answer_of answer_seen fault_seen r

-- the answers of two steps of one core are the same, and so are the cores afterwards; one that was refused memory has its program alone
pub record StepAlike {A : Type 0} (p : Program) (r : Result (Answer A) StepFault) (one : CoreValue) (q : Result (Answer A) StepFault) (other : CoreValue) : Type 0 where
  pub answers : Agree (step_seen r) (step_seen q)
  pub after : WhereBoth (step_seen r) (step_seen q) (one ≡ other)
  pub refused : IsErrOf r OutOfMemory → one ≡ spent_core p

-- what a call of a core answers, of what is seen of it
abbrev pub seen_by : {X Y E : Type 0} → (X → Y) → Result X E → Result Y E
seen_by see (Ok x) = Ok (see x)
seen_by see (Err e) = Err e

-- ---- picks

-- the fault of a text of picks; none where memory was refused
abbrev pub picks_fault_seen : PicksFault → Option PicksFault
picks_fault_seen picks.BadPicks = Some picks.BadPicks
picks_fault_seen picks.OutOfMemory = None

-- ---- transcripts

-- the fault of a run that keeps text; none where memory was refused
abbrev pub transcript_fault_seen : TranscriptFault → Option TranscriptFault
transcript_fault_seen transcripts.TooLong = Some transcripts.TooLong
transcript_fault_seen transcripts.OutOfMemory = None

-- ---- slots

-- both lists of slots are those of the program's sessions before any pick
pub record StartAlike {A K : Type 0} (Keeps : K → List Tree → Type 0) (p : Program) (ones others : List (Slot A K)) : Type 0 where
  pub first : AreAtStart Keeps p ones
  pub second : AreAtStart Keeps p others

-- both slots are of one session in one state, with the same messages
pub record AreTrackedAlike {A K : Type 0} (Keeps : K → List Tree → Type 0) (o : Exports) (one other : Slot A K) : Type 0 where
  pub living : Alive
  pub track : Track
  pub first : IsTracked Keeps o living track one
  pub second : IsTracked Keeps o living track other

-- both are what is kept, or handed out, of the same
pub record AreKept {K X : Type 0} (Keeps : K → List X → Type 0) (one other : K) : Type 0 where
  pub kept : List X
  pub first : Keeps one kept
  pub second : Keeps other kept
