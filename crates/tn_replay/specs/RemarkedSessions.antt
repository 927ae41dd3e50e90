-- What the code's observer of remarks stands for, and what it adds of one more pick.
use Rattle.std.specs.Prelude.{◌≡◌, ℕ, Bool, List, ◌++◌, map, Option}
use Rattle.std.specs.List.{list_any}
use Rattle.std.specs.Option.{option_map, is_some}
use Rattle.std.specs.declared.vec.Vec.{Vec}
use Rattle.def_term.specs.Alive.{Alive}
use Rattle.def_script.specs.Program.{Program, Command, session_of}
use Rattle.def_script.specs.Exports.{Exports, exports_of, visible}
use Rattle.def_run.specs.Run.{pick_step_after}
use Rattle.def_run.specs.History.{NamedSession, moments_from, session_in}
use Rattle.def_explain.specs.CommandReasons.{CommandReason, command_reason}
use Rattle.def_explain.specs.Remarks.{reasons_in, reply_and_reason}
use Rattle.tn_remark.specs.TextLines.{texts_seen}
use Rattle.tn_script.specs.Views.{functions_of}
use Rattle.tn_script.specs.declared.form.Function.{Function}
use Rattle.tn_trace.specs.Slots.{EachPair}
use Rattle.tn_trace.specs.Recorders.{HasRecorded}
use Rattle.tn_trace.specs.declared.slot.Slot.{Slot}
use Rattle.tn_trace.specs.NamedSessions.{sessions_after}
use Rattle.tn_trace.specs.NamedSessions.{HasState}
use Rattle.tn_trace.specs.declared.discard.Discard.{Discard}
use Rattle.tn_replay.specs.declared.remark_observer.RemarkObserver.{RemarkObserver}

-- why the session of a command among these refuses it, matches no function or has a trap by it, over these functions
abbrev pub SlotsHaveReason : {A : Type 0} → List (Function A) → List (Slot A Discard) → Command → Option CommandReason → Type 0
SlotsHaveReason functions slots c r =
    (o : Exports) → o.functions ≡ visible (functions_of functions) → (living : Alive) (ss : List NamedSession) → EachPair (HasState o living) ss slots
    → r ≡ command_reason o (session_in o (session_of c) ss) c

-- one of these is there
abbrev pub has_some : List (Option (List ℕ)) → Bool
has_some ts = list_any is_some ts

-- the observer has recorded the program's run by these picks
abbrev pub HasRemarked : {A : Type 0} → RemarkObserver A → Program → List ℕ → Type 0
HasRemarked c p picks = HasRecorded (λ _ _. Unit {0}) c.recorder p picks

-- the replies of the commands that one more pick takes, with why they are these, were appended
abbrev pub AddsReasons : {A : Type 0} → Program → List ℕ → ℕ → RemarkObserver A → RemarkObserver A → Vec (Option (Vec ℕ A)) A → Vec (Option (Vec ℕ A)) A → Type 0
AddsReasons p picks pick old new out out' =
    texts_seen out'.items
    ≡ texts_seen out.items ++ map (option_map reply_and_reason) (reasons_in (exports_of p) (moments_from (exports_of p) 0 0 (sessions_after p picks) (pick_step_after p picks pick).shown))
