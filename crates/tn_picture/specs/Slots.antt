-- What the code's sessions stand for, and what becomes of them.
use Rattle.std.specs.Prelude.{◌≡◌, ℕ, List, ◌++◌, map, Result, OnOk}
use Rattle.std.specs.declared.alloc.AllocError.{AllocError}
use Rattle.std.specs.declared.vec.Vec.{Vec}
use Rattle.def_term.specs.Alive.{Alive}
use Rattle.def_script.specs.Exports.{Exports, visible}
use Rattle.def_session.specs.State.{alive_after}
use Rattle.def_run.specs.Run.{event_item, command_item}
use Rattle.def_run.specs.History.{NamedSession, after, all_after, item_message}
use Rattle.def_picture.specs.Picture as picture
use Rattle.def_picture.specs.Picture.{report_of, reports_of}
use Rattle.tn_term.specs.Views.{alive_of}
use Rattle.tn_term.specs.declared.alive.Alive as terms
use Rattle.tn_flags.specs.Views.{event_of, command_of}
use Rattle.tn_flags.specs.declared.event.Event.{Event}
use Rattle.tn_flags.specs.declared.command.Command.{Command}
use Rattle.tn_script.specs.Views.{functions_of}
use Rattle.tn_script.specs.declared.form.Function.{Function}
use Rattle.tn_trace.specs.Slots.{IsSession, EachPair}
use Rattle.tn_trace.specs.declared.slot.Slot.{Slot}
use Rattle.tn_picture.specs.declared.row.Report.{Report}
use Rattle.tn_trace.specs.declared.discard.Discard.{Discard}
use Rattle.tn_picture.specs.Views.{report_seen}

-- the slot is this session's, over the functions of the program and where these processes live
pub record IsSlotOf {A : Type 0} (o : Exports) (living : Alive) (s : NamedSession) (slot : Slot A Discard) : Type 0 where
  pub name : slot.name ≡ s.0
  pub session : IsSession o.functions living s.1 slot.session

-- the messages of a row
abbrev pub reports_seen : {A : Type 0} → Vec (Report A) A → List picture.Report
reports_seen v = map report_seen v.items

-- where a session saw an event, whoever lived before it, its message was appended
abbrev pub SlotReports : {A : Type 0} → ℕ → Event A → Slot A Discard → Slot A Discard → Vec (Report A) A → Vec (Report A) A → Result (Unit {0}) AllocError → Type 0
SlotReports n event old new reports reports' result =
    (o : Exports) (living : Alive) (s : NamedSession) → IsSlotOf o living s old
    → OnOk result (IsSlotOf o (alive_after living (event_of event)) (after o s (event_item (event_of event))) new × (reports_seen reports' ≡ reports_seen reports ++ map (report_of n) (item_message s.1 (event_item (event_of event)))))

-- the same of all sessions
abbrev pub SlotsReport : {A : Type 0} → Event A → List (Slot A Discard) → List (Slot A Discard) → Vec (Report A) A → Vec (Report A) A → Result (Unit {0}) AllocError → Type 0
SlotsReport event old new reports reports' result =
    (o : Exports) (living : Alive) (ss : List NamedSession) → EachPair (IsSlotOf o living) ss old
    → OnOk result (EachPair (IsSlotOf o (alive_after living (event_of event))) (all_after o ss (event_item (event_of event))) new × (reports_seen reports' ≡ reports_seen reports ++ reports_of 1 ss (event_item (event_of event))))

-- a session did a command that is its own; nobody starts or ends by it
abbrev pub SlotObeys : {A : Type 0} → List (Function A) → terms.Alive → Command A → Slot A Discard → Slot A Discard → Result (Unit {0}) AllocError → Type 0
SlotObeys functions living command old new result =
    (o : Exports) → o.functions ≡ visible (functions_of functions) → (s : NamedSession) → IsSlotOf o (alive_of living) s old
    → OnOk result (IsSlotOf o (alive_of living) (after o s (command_item (command_of command))) new)

-- the same of all sessions
abbrev pub SlotsObey : {A : Type 0} → List (Function A) → terms.Alive → Command A → List (Slot A Discard) → List (Slot A Discard) → Result (Unit {0}) AllocError → Type 0
SlotsObey functions living command old new result =
    (o : Exports) → o.functions ≡ visible (functions_of functions) → (ss : List NamedSession) → EachPair (IsSlotOf o (alive_of living)) ss old
    → OnOk result (EachPair (IsSlotOf o (alive_of living)) (all_after o ss (command_item (command_of command))) new)
