-- What the code's sessions that choose moves stand for, and which moves they choose.
-- Depends on which moves are chosen by a message, and on the code's sessions.
use Rattle.std.specs.Prelude.{◌≡◌, ℕ, Bool, List, map, Result, OnOk, IfOk}
use Rattle.std.specs.List.{list_any}
use Rattle.std.specs.declared.alloc.AllocError.{AllocError}
use Rattle.def_script.specs.Exports.{Exports, visible}
use Rattle.def_outlook.specs.Outlook.{Outlook}
use Rattle.def_run.specs.Run.{HistoryItem, event_item, command_item}
use Rattle.def_run.specs.History.{NamedSession, all_after, all_after_items, move_history}
use Rattle.def_message_choice.specs.MessageChoices.{chooses, is_chosen}
use Rattle.tn_term.specs.Views.{alive_of}
use Rattle.tn_flags.specs.Views.{event_of, command_of}
use Rattle.tn_flags.specs.declared.event.Event.{Event}
use Rattle.tn_flags.specs.declared.command.Command.{Command}
use Rattle.tn_script.specs.Views.{functions_of}
use Rattle.tn_script.specs.declared.form.Function.{Function}
use Rattle.tn_trace.specs.NamedSessions.{HasState}
use Rattle.tn_trace.specs.Slots.{EachPair}
use Rattle.tn_message_choice.specs.Choices.{choice_seen, session_asked}
use Rattle.tn_message_choice.specs.declared.choice.MessageQuestion.{MessageQuestion}
use Rattle.tn_message_choice.specs.declared.choosers.Choosers.{Choosers}

-- the sessions are these
abbrev pub AreChoosers : {A : Type 0} → Exports → List NamedSession → Choosers A → Type 0
AreChoosers o ss c = EachPair (HasState o (alive_of c.living)) ss c.slots.items

-- the sessions saw an event, and one of those that are asked about chooses it or none does
abbrev pub ChooseEvent : {A : Type 0} → MessageQuestion → Event A → Choosers A → Choosers A → Result Bool AllocError → Type 0
ChooseEvent q event old new result =
    (o : Exports) (ss : List NamedSession) → AreChoosers o ss old
    → IfOk result (λ b. AreChoosers o (all_after o ss (event_item (event_of event))) new × (b ≡ list_any (chooses (choice_seen q.choice) (session_asked q) (event_item (event_of event))) ss))

-- whether a move that shows this is chosen, whatever its number and its pick are and was known of its step
abbrev pub IsChosenMove : MessageQuestion → Exports → List NamedSession → List HistoryItem → Bool → Type 0
IsChosenMove q o ss xs b = (k pick : ℕ) (l : Outlook) → b ≡ is_chosen (choice_seen q.choice) (session_asked q) (move_history o k pick l ss xs)

-- the sessions saw the events of a move, in order, and it is chosen or isn't
abbrev pub ChooseMove : {A : Type 0} → MessageQuestion → List (Event A) → Choosers A → Choosers A → Result Bool AllocError → Type 0
ChooseMove q events old new result =
    (o : Exports) (ss : List NamedSession) → AreChoosers o ss old
    → IfOk result (λ b. AreChoosers o (all_after_items o ss (map event_item (map event_of events))) new × IsChosenMove q o ss (map event_item (map event_of events)) b)

-- they saw a command, over the functions of the program
abbrev pub ObeyCommand : {A : Type 0} → List (Function A) → Command A → Choosers A → Choosers A → Result (Unit {0}) AllocError → Type 0
ObeyCommand functions command old new result =
    (o : Exports) → o.functions ≡ visible (functions_of functions) → (ss : List NamedSession) → AreChoosers o ss old
    → OnOk result (AreChoosers o (all_after o ss (command_item (command_of command))) new)
