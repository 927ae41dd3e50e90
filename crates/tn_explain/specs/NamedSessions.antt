-- What the code's sessions of an account stand for, and what becomes of them.
use Rattle.std.specs.Prelude.{◌≡◌, ℕ, true, List, [], ◌∷◌, ◌++◌, map, Option, Result, OnOk}
use Rattle.std.specs.Str.{bytes_eq}
use Rattle.std.specs.declared.alloc.AllocError.{AllocError}
use Rattle.std.specs.declared.vec.Vec.{Vec}
use Rattle.def_term.specs.Alive.{Alive}
use Rattle.def_script.specs.Program.{session_of}
use Rattle.def_script.specs.Exports.{Exports, exports_of, visible}
use Rattle.def_session.specs.State.{alive_after}
use Rattle.def_run.specs.Run.{HistoryItem, event_item, command_item}
use Rattle.def_run.specs.History.{NamedSession, after, all_after, all_after_items, named_sessions}
use Rattle.def_explain.specs.CommandReasons.{CommandReason, command_reason}
use Rattle.def_explain.specs.Differences.{Difference}
use Rattle.def_explain.specs.CommandDifferences.{command_difference}
use Rattle.def_explain.specs.Runs.{session_lines, shows, makes, made_by_all, entries_over, entries_of_move}
use Rattle.tn_term.specs.Views.{alive_of}
use Rattle.tn_flags.specs.Views.{event_of, command_of}
use Rattle.tn_flags.specs.declared.event.Event.{Event}
use Rattle.tn_flags.specs.declared.command.Command.{Command}
use Rattle.tn_script.specs.Views.{functions_of}
use Rattle.tn_script.specs.declared.form.Function.{Function}
use Rattle.tn_node.specs.Outlooks.{outlook_seen}
use Rattle.tn_program.specs.Views.{program_of}
use Rattle.tn_program.specs.declared.parts.Program.{Program}
use Rattle.tn_trace.specs.Slots.{EachPair}
use Rattle.tn_trace.specs.NamedSessions.{HasState}
use Rattle.tn_trace.specs.declared.slot.Slot.{Slot}
use Rattle.tn_explain.specs.Filters.{text_by}
use Rattle.tn_explain.specs.declared.slots.Order.{Order}
use Rattle.tn_explain.specs.declared.step.Step.{Step}
use Rattle.tn_trace.specs.declared.discard.Discard.{Discard}
use Rattle.tn_explain.specs.declared.sessions.Sessions.{Sessions}

-- the sessions are these
abbrev pub AreNamedSessions : {A : Type 0} → Exports → List NamedSession → Sessions A → Type 0
AreNamedSessions o ss c = EachPair (HasState o (alive_of c.living)) ss c.slots.items

-- the sessions are those of the program before they are created
abbrev pub AreUncreatedSessions : {A : Type 0} → Program A → Sessions A → Type 0
AreUncreatedSessions program c = AreNamedSessions (exports_of (program_of program)) (named_sessions (program_of program)) c

-- where a session saw what is shown, and these live then, what it makes of it was appended as far as it is asked for
abbrev pub SlotMakes : {A : Type 0} → Step → Exports → (living living' : Alive) → HistoryItem → Slot A Discard → Slot A Discard → List ℕ → List ℕ → Result (Unit {0}) AllocError → Type 0
SlotMakes step o living living' x old new text text' result =
    (s : NamedSession) → HasState o living s old
    → OnOk result (HasState o living' (after o s x) new × (text' ≡ text ++ text_by step (map (makes s.0) (session_lines o (outlook_seen step.outlook) s x))))

-- the same of all sessions
abbrev pub SlotsMake : {A : Type 0} → Step → Exports → (living living' : Alive) → HistoryItem → List (Slot A Discard) → List (Slot A Discard) → List ℕ → List ℕ → Result (Unit {0}) AllocError → Type 0
SlotsMake step o living living' x old new text text' result =
    (ss : List NamedSession) → EachPair (HasState o living) ss old
    → OnOk result (EachPair (HasState o living') (all_after o ss x) new × (text' ≡ text ++ text_by step (made_by_all o (outlook_seen step.outlook) ss x)))

-- where a session saw an event, whoever lived before it, what it makes of it was appended as far as it is asked for
abbrev pub SlotSeesEvent : {A : Type 0} → Step → Event A → Slot A Discard → Slot A Discard → List ℕ → List ℕ → Result (Unit {0}) AllocError → Type 0
SlotSeesEvent step event old new text text' result =
    (o : Exports) (living : Alive) → SlotMakes step o living (alive_after living (event_of event)) (event_item (event_of event)) old new text text' result

-- the same of all sessions
abbrev pub SlotsSeeEvent : {A : Type 0} → Step → Event A → List (Slot A Discard) → List (Slot A Discard) → List ℕ → List ℕ → Result (Unit {0}) AllocError → Type 0
SlotsSeeEvent step event old new text text' result =
    (o : Exports) (living : Alive) → SlotsMake step o living (alive_after living (event_of event)) (event_item (event_of event)) old new text text' result

-- why the session of the slot refuses a command that is its own, matches no function or has a trap by it
abbrev pub SlotHasReason : {A : Type 0} → Order A → Slot A Discard → Option CommandReason → Type 0
SlotHasReason order slot r =
    (o : Exports) → o.functions ≡ visible (functions_of order.functions.now) → (s : NamedSession) → HasState o (alive_of order.living) s slot
    → bytes_eq s.0 (session_of (command_of order.command.now)) ≡ true → r ≡ command_reason o s.1 (command_of order.command.now)

-- what a node does otherwise by the command, where it is of this session
abbrev pub SlotHasDifference : {A : Type 0} → Order A → Slot A Discard → Option Difference → Type 0
SlotHasDifference order slot r =
    (o : Exports) → o.functions ≡ visible (functions_of order.functions.now) → (s : NamedSession) → HasState o (alive_of order.living) s slot
    → bytes_eq s.0 (session_of (command_of order.command.now)) ≡ true → r ≡ command_difference o s.1 (command_of order.command.now)

-- where a session saw a command, what it makes of it was appended as far as it is asked for; nobody starts or ends by it
abbrev pub SlotSeesCommand : {A : Type 0} → Step → Order A → Slot A Discard → Slot A Discard → List ℕ → List ℕ → Result (Unit {0}) AllocError → Type 0
SlotSeesCommand step order old new text text' result =
    (o : Exports) → o.functions ≡ visible (functions_of order.functions.now) →
    SlotMakes step o (alive_of order.living) (alive_of order.living) (command_item (command_of order.command.now)) old new text text' result

-- the same of all sessions
abbrev pub SlotsSeeCommand : {A : Type 0} → Step → Order A → List (Slot A Discard) → List (Slot A Discard) → List ℕ → List ℕ → Result (Unit {0}) AllocError → Type 0
SlotsSeeCommand step order old new text text' result =
    (o : Exports) → o.functions ≡ visible (functions_of order.functions.now) →
    SlotsMake step o (alive_of order.living) (alive_of order.living) (command_item (command_of order.command.now)) old new text text' result

-- the sessions saw what is shown, and it was appended with what they make of it, as far as it is asked for
abbrev pub ExplainsItem : {A : Type 0} → Step → Exports → HistoryItem → Sessions A → Sessions A → List ℕ → List ℕ → Result (Unit {0}) AllocError → Type 0
ExplainsItem step o x old new text text' result =
    (ss : List NamedSession) → AreNamedSessions o ss old
    → OnOk result (AreNamedSessions o (all_after o ss x) new × (text' ≡ text ++ text_by step (shows step.number step.pick x ∷ made_by_all o (outlook_seen step.outlook) ss x)))

-- the same of all that a move shows, in order
abbrev pub ExplainsItems : {A : Type 0} → Step → Exports → List HistoryItem → Sessions A → Sessions A → List ℕ → List ℕ → Result (Unit {0}) AllocError → Type 0
ExplainsItems step o xs old new text text' result =
    (ss : List NamedSession) → AreNamedSessions o ss old
    → OnOk result (AreNamedSessions o (all_after_items o ss xs) new × (text' ≡ text ++ text_by step (entries_over o (outlook_seen step.outlook) step.number step.pick ss xs)))

-- the same of a move
abbrev pub ExplainsShown : {A : Type 0} → Step → Exports → List HistoryItem → Sessions A → Sessions A → List ℕ → List ℕ → Result (Unit {0}) AllocError → Type 0
ExplainsShown step o xs old new text text' result =
    (ss : List NamedSession) → AreNamedSessions o ss old
    → OnOk result (AreNamedSessions o (all_after_items o ss xs) new × (text' ≡ text ++ text_by step (entries_of_move o (outlook_seen step.outlook) step.number step.pick ss xs)))

-- the sessions saw this event of a move, and it was appended with what they make of it, as far as it is asked for
abbrev pub ExplainsEvent : {A : Type 0} → Step → Event A → Sessions A → Sessions A → Vec ℕ A → Vec ℕ A → Result (Unit {0}) AllocError → Type 0
ExplainsEvent step event old new text text' result = (o : Exports) → ExplainsItem step o (event_item (event_of event)) old new text.items text'.items result

-- the same of these events of a move, in order
abbrev pub ExplainsEvents : {A : Type 0} → Step → List (Event A) → Sessions A → Sessions A → Vec ℕ A → Vec ℕ A → Result (Unit {0}) AllocError → Type 0
ExplainsEvents step events old new text text' result = (o : Exports) → ExplainsItems step o (map event_item (map event_of events)) old new text.items text'.items result

-- the same of a move of a process, whose events these are, or which shows nothing
abbrev pub ExplainsMove : {A : Type 0} → Step → List (Event A) → Sessions A → Sessions A → Vec ℕ A → Vec ℕ A → Result (Unit {0}) AllocError → Type 0
ExplainsMove step events old new text text' result = (o : Exports) → ExplainsShown step o (map event_item (map event_of events)) old new text.items text'.items result

-- the same of a command, which is all that its move shows, over the functions of the program
abbrev pub ExplainsCommand : {A : Type 0} → Step → List (Function A) → Command A → Sessions A → Sessions A → Vec ℕ A → Vec ℕ A → Result (Unit {0}) AllocError → Type 0
ExplainsCommand step functions command old new text text' result =
    (o : Exports) → o.functions ≡ visible (functions_of functions) → ExplainsShown step o (command_item (command_of command) ∷ []) old new text.items text'.items result
