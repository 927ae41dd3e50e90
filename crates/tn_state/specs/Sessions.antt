-- The sessions of a run beside what they see.
use Rattle.std.specs.Prelude.{◌≡◌, ℕ, List, [], ◌++◌, filter, flat_map, if◌then◌else◌, ◌≤◌, length, take, Option, Result, OnOk}
use Rattle.std.specs.Option.{option_map}
use Rattle.std.specs.declared.alloc.AllocError.{AllocError}
use Rattle.def_term.specs.Alive.{Alive}
use Rattle.def_term.specs.Names.{Name}
use Rattle.def_term.specs.Tree.{Tree}
use Rattle.def_script.specs.Program as program
use Rattle.def_script.specs.Exports.{exports_of}
use Rattle.def_script.specs.Script.{creations}
use Rattle.def_run.specs.Run.{HistoryItem}
use Rattle.def_run.specs.View.{View, is_own}
use Rattle.def_run.specs.Listing.{state_of}
use Rattle.def_state.specs.SettingTerms.{commands_among}
use Rattle.def_state.specs.States.{asks_for, session_text, text_after}
use Rattle.tn_program.specs.Views.{program_of}
use Rattle.tn_program.specs.declared.parts.Program as code
use Rattle.tn_trace.specs.Slots.{IsSession, IsTracked, EachPair}
use Rattle.tn_trace.specs.Tracks.{tracks_from}
use Rattle.tn_trace.specs.declared.discard.Discard.{Discard}
use Rattle.tn_trace.specs.Recorders.{HasRecorded}
use Rattle.tn_trace.specs.Runs.{IsRun}
use Rattle.tn_trace.specs.declared.recorder.Recorder.{Recorder}
use Rattle.tn_trace.specs.declared.run.Run.{Run}
use Rattle.tn_trace.specs.declared.slot.Slot.{Slot}
use Rattle.tn_state.specs.declared.session.SessionContext.{SessionContext}

-- what the session of this name sees of these items
abbrev pub view_of : program.Program → List HistoryItem → Name → View
view_of p items s = record { opening = exports_of p; items = filter (is_own s) items }

-- the slot has the state of that session
abbrev pub IsSlotAfter : {A : Type 0} → program.Program → List HistoryItem → Name → Slot A Discard → Type 0
IsSlotAfter p items s slot = (living : Alive) × IsSession (exports_of p).functions living (state_of (view_of p items s)) slot.session

-- the commands among the items are the first of the program
abbrev pub AreTakenOf : program.Program → ℕ → List HistoryItem → Type 0
AreTakenOf p taken items = commands_among items ≡ take taken p.commands

-- a session that is asked for
abbrev pub text_where_asked : Option Name → program.Program → List HistoryItem → Name × Name → List ℕ
text_where_asked asked p items s = if asks_for asked s.0 then session_text s (view_of p items s.0) else []

-- the program, and the name that is asked for
abbrev pub program_in : {A : Type 0} → SessionContext A → program.Program
program_in c = program_of c.program.now

abbrev pub asked_in : {A : Type 0} → SessionContext A → Option Name
asked_in c = option_map (λ s. s.now) c.asked

-- the program has as many commands as were taken
abbrev pub HasTaken : {A : Type 0} → SessionContext A → Type 0
HasTaken c = c.taken ≤ length (program_in c).commands

-- the text of the session, whatever it sees, is appended
abbrev pub PutsSession : {A : Type 0} → SessionContext A → Name × Name → Slot A Discard → List ℕ → List ℕ → Result (Unit {0}) AllocError → Type 0
PutsSession c s slot old new result =
    (items : List HistoryItem) → IsSlotAfter (program_in c) items s.0 slot → AreTakenOf (program_in c) c.taken items → OnOk result (new ≡ old ++ session_text s (view_of (program_in c) items s.0))

-- the same, where it is asked for
abbrev pub PutsAsked : {A : Type 0} → SessionContext A → Name × Name → Slot A Discard → List ℕ → List ℕ → Result (Unit {0}) AllocError → Type 0
PutsAsked c s slot old new result =
    (items : List HistoryItem) → IsSlotAfter (program_in c) items s.0 slot → AreTakenOf (program_in c) c.taken items → OnOk result (new ≡ old ++ text_where_asked (asked_in c) (program_in c) items s)

-- the slots are those of the program's sessions, whatever they see
abbrev pub AreSlotsAfter : {A : Type 0} → program.Program → List HistoryItem → List (Slot A Discard) → Type 0
AreSlotsAfter p items slots = (living : Alive) × EachPair (IsTracked (λ (k : Discard) (ts : List Tree). Unit {0}) (exports_of p) living) (tracks_from (exports_of p) items 1 (creations p.commands)) slots

-- the texts of the sessions that are asked for
abbrev pub texts_in : {A : Type 0} → SessionContext A → List HistoryItem → List (Name × Name) → List ℕ
texts_in c items ss = flat_map (text_where_asked (asked_in c) (program_in c) items) ss

-- whatever they see, these are appended
abbrev pub PutsSessions : {A : Type 0} → SessionContext A → List (Slot A Discard) → List ℕ → List ℕ → Result (Unit {0}) AllocError → Type 0
PutsSessions c slots old new result =
    (items : List HistoryItem) → AreSlotsAfter (program_in c) items slots → AreTakenOf (program_in c) c.taken items → OnOk result (new ≡ old ++ texts_in c items (creations (program_in c).commands))

-- the state of the run by the picks of its journal is appended
abbrev pub PutsRun : {A : Type 0} → Option Name → code.Program A → Run A (Recorder A Discard) → List ℕ → List ℕ → Result (Unit {0}) AllocError → Type 0
PutsRun asked program run old new result =
    (limit : ℕ) (picks : List ℕ) → IsRun (HasRecorded (λ (k : Discard) (ts : List Tree). Unit {0})) (program_of program) limit picks run → OnOk result (new ≡ old ++ text_after asked (program_of program) picks)
