-- What is promised of what is known of a process's next step before it is made (own).
-- Depends on what a process does at its next step, and on what is known of it.
use Rattle.std.specs.Bool.{⊤}
use Rattle.std.specs.Prelude.{◌≡◌, ℕ, ◌-◌, nat_le, true, false, Bool, List, [], ◌∷◌, ◌++◌, length, Option, Some, None}
use Rattle.def_term.specs.Tree.{Tree}
use Rattle.def_term.specs.Alive.{FIRST_PID}
use Rattle.def_script.specs.Program.{Function}
use Rattle.def_node.specs.Process.{FRAMES, Frame, Process, Act, waits, sends, links_to, unlinks_from, exits, step_on, act}
use Rattle.def_node.specs.Node.{World, moved, put_at, next_of}
use Rattle.def_node.specs.Laws.{NoneByCatch}
use Rattle.def_outlook.specs.Outlook.{RuntimeError, calls_past_limit, spawns_past_limit, error_reason, runtime_error, is_waiting, addressee, OwnLink, links_itself, unlinks_itself, own_link, catch_depth, process_with}

-- where it is a run-time error, the process ends with the reason of the error, and the step has no other event
abbrev pub ErrorEndsTheProcess : Type 0
ErrorEndsTheProcess =
    (ks : List Function) (n : ℕ) (child : Option ℕ) (q : Process) (x : RuntimeError) → runtime_error ks child q ≡ Some x → act ks n child q ≡ exits q.links (error_reason x) []

-- and where a process ends at a step that has no other event, and takes no exit signal, it is one
abbrev pub SuddenEndIsAnError : Type 0
SuddenEndIsAnError =
    (ks : List Function) (n : ℕ) (child : Option ℕ) (q : Process) (partners : List Bool) (r : Tree) → q.signal ≡ None → act ks n child q ≡ exits partners r [] →
    (x : RuntimeError) × (runtime_error ks child q ≡ Some x) × (r ≡ error_reason x)

-- an error of a limit is of the limit that is passed: the process has as many frames as it may have, or no pid is left
abbrev pub IsPastLimit : RuntimeError → (count : ℕ) → (child : Option ℕ) → Type 0
IsPastLimit calls_past_limit count child = nat_le FRAMES count ≡ true
IsPastLimit spawns_past_limit count child = child ≡ None
IsPastLimit x count child = ⊤

abbrev pub ErrorIsOfItsLimit : Type 0
ErrorIsOfItsLimit = (ks : List Function) (child : Option ℕ) (q : Process) (x : RuntimeError) → runtime_error ks child q ≡ Some x → IsPastLimit x (length q.frames) child

-- an act by which a process waits
abbrev pub is_wait : Act → Bool
is_wait (waits q) = true
is_wait a = false

-- a process is said to wait exactly where it can't move
abbrev pub WaitingIsOfTheAct : Type 0
WaitingIsOfTheAct = (ks : List Function) (n : ℕ) (child : Option ℕ) (q : Process) → is_waiting ks q ≡ is_wait (act ks n child q)

-- a send goes to the pid that is said
abbrev pub SendGoesToTheAddressee : Type 0
SendGoesToTheAddressee =
    (ks : List Function) (n : ℕ) (child : Option ℕ) (q r : Process) (to : ℕ) (t : Tree) → act ks n child q ≡ sends r to t → addressee ks q ≡ Some to

-- the act by which the process with the pid n links to itself or unlinks from itself; afterwards it is r
abbrev pub own_act : Process → ℕ → OwnLink → Act
own_act r n links_itself = links_to r n
own_act r n unlinks_itself = unlinks_from r n

-- the newest frame of the process goes one step on, and nothing else of it changes
abbrev pub GoesOneStepOn : (before after : Process) → Type 0
GoesOneStepOn q r = (f : Frame) × (fs : List Frame) × (q.frames ≡ f ∷ fs) × (r ≡ step_on q f fs)

-- where a process is said to link to itself or to unlink from itself, it does so, and goes one step on
abbrev pub OwnLinkIsOfTheAct : Type 0
OwnLinkIsOfTheAct =
    (ks : List Function) (n : ℕ) (child : Option ℕ) (q : Process) (x : OwnLink) → own_link ks n q ≡ Some x →
    (r : Process) × GoesOneStepOn q r × (act ks n child q ≡ own_act r n x)

-- and where it does so, that is said
abbrev pub OwnActIsAnOwnLink : Type 0
OwnActIsAnOwnLink = (ks : List Function) (n : ℕ) (child : Option ℕ) (q r : Process) (x : OwnLink) → act ks n child q ≡ own_act r n x → own_link ks n q ≡ Some x

-- the move has no event, and changes no other process
abbrev pub OwnLinkHasNoEvent : Type 0
OwnLinkHasNoEvent =
    (ks : List Function) (w : World) (n : ℕ) (q : Process) (x : OwnLink) → process_with w n ≡ Some q → own_link ks n q ≡ Some x →
    (r : Process) × GoesOneStepOn q r × (next_of ks w n ≡ moved (put_at w (n - FIRST_PID) r) [])

-- the newest frame that a catch step called has this depth: that of the last frame that a raise leaves
abbrev pub CatchHasItsDepth : Type 0
CatchHasItsDepth = (above beneath : List Frame) (f : Frame) → NoneByCatch above → f.by_catch ≡ true → catch_depth (above ++ f ∷ beneath) ≡ Some (length (f ∷ beneath))

-- there is none where a catch step called no frame
abbrev pub NoCatchNoDepth : Type 0
NoCatchNoDepth = (fs : List Frame) → NoneByCatch fs → catch_depth fs ≡ None
