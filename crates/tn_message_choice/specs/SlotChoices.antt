-- What becomes of the code's sessions as they see an event, and which of them choose it.
-- Depends on which moves are chosen by a message, and on the code's sessions.
use Rattle.std.specs.Prelude.{◌≡◌, Bool, List, Option, Result, OnOk, IfOk}
use Rattle.std.specs.List.{list_any}
use Rattle.std.specs.Option.{option_map}
use Rattle.std.specs.declared.alloc.AllocError.{AllocError}
use Rattle.def_term.specs.Alive.{Alive}
use Rattle.def_script.specs.Exports.{Exports, visible}
use Rattle.def_session.specs.State as definition
use Rattle.def_session.specs.State.{alive_after}
use Rattle.def_session.specs.Session.{event_reported}
use Rattle.def_run.specs.Run.{event_item, command_item}
use Rattle.def_run.specs.History.{NamedSession, after, all_after}
use Rattle.def_message_choice.specs.MessageChoices.{would_match, chooses}
use Rattle.tn_term.specs.Views.{tree_of, alive_of}
use Rattle.tn_term.specs.declared.alive.Alive as code
use Rattle.tn_term.specs.declared.term.Term.{Term}
use Rattle.tn_flags.specs.Views.{event_of, command_of}
use Rattle.tn_flags.specs.declared.event.Event.{Event}
use Rattle.tn_flags.specs.declared.command.Command.{Command}
use Rattle.tn_script.specs.Views.{functions_of}
use Rattle.tn_script.specs.declared.form.Function.{Function}
use Rattle.tn_session.specs.declared.session.Session.{Session}
use Rattle.tn_trace.specs.NamedSessions.{HasState}
use Rattle.tn_trace.specs.Slots.{IsSession, EachPair}
use Rattle.tn_trace.specs.declared.discard.Discard.{Discard}
use Rattle.tn_trace.specs.declared.slot.Slot.{Slot}
use Rattle.tn_message_choice.specs.Choices.{choice_seen, session_asked}
use Rattle.tn_message_choice.specs.declared.choice.MessageQuestion.{MessageQuestion}

-- a session saw an event, and sends this message of it
abbrev pub SessionSees : {A : Type 0} → Event A → Option (Session A) → Option (Session A) → Result (Option (Term A)) AllocError → Type 0
SessionSees event old new result =
    (o : Exports) (living : Alive) (s : definition.Session) → IsSession o.functions living s old
    → IfOk result (λ m. IsSession o.functions (alive_after living (event_of event)) (event_reported s (event_of event)).0 new × (option_map tree_of m ≡ (event_reported s (event_of event)).1))

-- a session saw an event of which a message would match or wouldn't, and chooses it or doesn't
abbrev pub SlotChooses : {A : Type 0} → MessageQuestion → (would : Bool) → Event A → Slot A Discard → Slot A Discard → Result Bool AllocError → Type 0
SlotChooses q would event old new result =
    (o : Exports) (living : Alive) (s : NamedSession) → HasState o living s old → would ≡ would_match (choice_seen q.choice) (event_of event)
    → IfOk result (λ b. HasState o (alive_after living (event_of event)) (after o s (event_item (event_of event))) new × (b ≡ chooses (choice_seen q.choice) (session_asked q) (event_item (event_of event)) s))

-- all sessions saw it, and one of them chooses it or none does
abbrev pub SlotsChoose : {A : Type 0} → MessageQuestion → (would : Bool) → Event A → List (Slot A Discard) → List (Slot A Discard) → Result Bool AllocError → Type 0
SlotsChoose q would event old new result =
    (o : Exports) (living : Alive) (ss : List NamedSession) → EachPair (HasState o living) ss old → would ≡ would_match (choice_seen q.choice) (event_of event)
    → IfOk result (λ b. EachPair (HasState o (alive_after living (event_of event))) (all_after o ss (event_item (event_of event))) new
    × (b ≡ list_any (chooses (choice_seen q.choice) (session_asked q) (event_item (event_of event))) ss))

-- all sessions saw a command, over the functions of the program; nobody starts or ends by it
abbrev pub SlotsFollow : {A : Type 0} → List (Function A) → code.Alive → Command A → List (Slot A Discard) → List (Slot A Discard) → Result (Unit {0}) AllocError → Type 0
SlotsFollow functions living command old new result =
    (o : Exports) → o.functions ≡ visible (functions_of functions) → (ss : List NamedSession) → EachPair (HasState o (alive_of living)) ss old
    → OnOk result (EachPair (HasState o (alive_of living)) (all_after o ss (command_item (command_of command))) new)
