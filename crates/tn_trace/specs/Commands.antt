-- What a command does to the sessions of the code, and the reply.
use Rattle.std.specs.Prelude.{◌≡◌, List, None, Option, map, Result, IfOk}
use Rattle.std.specs.Option.{option_map}
use Rattle.std.specs.declared.alloc.AllocError.{AllocError}
use Rattle.def_term.specs.Tree.{Tree}
use Rattle.def_script.specs.Program.{Program}
use Rattle.def_script.specs.Exports.{Exports, visible}
use Rattle.tn_term.specs.Views.{tree_of, alive_of}
use Rattle.tn_term.specs.declared.term.Term.{Term}
use Rattle.tn_term.specs.declared.alive.Alive.{Alive}
use Rattle.tn_flags.specs.Views.{command_of}
use Rattle.tn_flags.specs.declared.command.Command.{Command}
use Rattle.tn_script.specs.Views.{functions_of}
use Rattle.tn_script.specs.declared.form.Function.{Function}
use Rattle.tn_trace.specs.Tracks.{Track, with_command, reply_from}
use Rattle.tn_trace.specs.Slots.{IsTracked, Obeys, ObeysOwn, EachPair}
use Rattle.tn_trace.specs.Recorders.{AreTracked, Takes}
use Rattle.tn_trace.specs.declared.slot.Slot.{Slot}
use Rattle.tn_trace.specs.declared.recorder.Recorder.{Recorder}

-- the session of the slot did the command, with this reply
abbrev pub SlotReplies : {A K : Type 0} → (K → List Tree → Type 0) → List (Function A) → Alive → Command A → Slot A K → Slot A K → Result (Term A) AllocError → Type 0
SlotReplies Keeps functions living command old new result =
    (o : Exports) (t : Track) → o.functions ≡ visible (functions_of functions) → IsTracked Keeps o (alive_of living) t old
    → IfOk result (λ r. Obeys Keeps o (alive_of living) t (command_of command) new (tree_of r))

-- the same where the command is to that session, and nothing and no reply where it is to another
abbrev pub RepliesToOwn : {A K : Type 0} → (K → List Tree → Type 0) → List (Function A) → Alive → Command A → Slot A K → Slot A K → Result (Option (Term A)) AllocError → Type 0
RepliesToOwn Keeps functions living command old new result =
    (o : Exports) (t : Track) → o.functions ≡ visible (functions_of functions) → IsTracked Keeps o (alive_of living) t old
    → IfOk result (λ r. ObeysOwn Keeps o (alive_of living) t (command_of command) new (option_map tree_of r))

-- the session that the command names did it
abbrev pub OneObeys : {A K : Type 0} → (K → List Tree → Type 0) → List (Function A) → Alive → Command A → List (Slot A K) → List (Slot A K) → Result (Option (Term A)) AllocError → Type 0
OneObeys Keeps functions living command old new result =
    (o : Exports) (ts : List Track) → o.functions ≡ visible (functions_of functions) → EachPair (IsTracked Keeps o (alive_of living)) ts old
    → IfOk result (λ _. EachPair (IsTracked Keeps o (alive_of living)) (map (with_command o (command_of command)) ts) new)

-- the reply is that session's
abbrev pub OneReplies : {A K : Type 0} → (K → List Tree → Type 0) → List (Function A) → Alive → Command A → List (Slot A K) → Result (Option (Term A)) AllocError → Type 0
OneReplies Keeps functions living command old result =
    (o : Exports) (ts : List Track) → o.functions ≡ visible (functions_of functions) → EachPair (IsTracked Keeps o (alive_of living)) ts old
    → IfOk result (λ r. option_map tree_of r ≡ reply_from o (command_of command) None ts)

-- the recorder took the command of its program
abbrev pub TakesCommand : {A K : Type 0} → (K → List Tree → Type 0) → Program → Command A → Recorder A K → Recorder A K → Result (Unit {0}) AllocError → Type 0
TakesCommand Keeps p command old new result =
    (o : Exports) (ts : List Track) → o.functions ≡ visible p.functions → AreTracked Keeps o ts old
    → IfOk result (λ _. Takes Keeps o ts (command_of command) old new)
