-- A process, and what it does by itself at its next step (own).
-- Depends on the events, on templates and on the program. What the step does to other processes is in `Node`.
-- Exceptions are those of erlang:error/1, throw/1 and exit/1, caught as by `catch`; they have no stack trace.
use Rattle.std.specs.Prelude.{ℕ, ◌+◌, nat_le, Bool, true, false, if◌then◌else◌, List, [], ◌∷◌, map, filter_map, length, slice_get, Option, Some, None, codes}
use Rattle.std.specs.List.{list_any}
use Rattle.std.specs.Option.{option_map}
use Rattle.def_term.specs.Tree.{Tree, pid, tuple, list, none, more, pid_in}
use Rattle.def_term.specs.Names.{Name, Mfa, word}
use Rattle.def_script.specs.Program.{Class, error, throw, Step, send, receive, call_remote, call_local, catch, spawn, link, unlink, give_back, raise, Function, mfa_of, Entry, entry_mfa, number_from}
use Rattle.def_node.specs.Event.{Event, called, returned, raised}
use Rattle.def_node.specs.Values.{Env, instance_of, fit, fitting_all, rebound_target, params_bound}

-- a call that goes on: its function's number, how many of its steps are done, the values of its variables, the caller's target,
-- and whether a catch step called it
pub record Frame : Type 0 where
  pub function : ℕ
  pub place : ℕ
  pub env : Env
  pub target : Option Name
  pub by_catch : Bool

-- the newest frame first; the mailbox in the order of arrival; whether it is linked to each of the pids from 100 on
pub record Process : Type 0 where
  pub entry : Option Entry
  pub frames : List Frame
  pub mailbox : List Tree
  pub signal : Option Tree
  pub links : List Bool

-- what a process does at its next step, and what it is then
pub data Act : Type 0 where
  waits : Process → Act
  -- with the events of the step: one at most, but where a raise leaves frames
  continues : Process → List Event → Act
  sends : Process → (to : ℕ) → (message : Tree) → Act
  links_to : Process → (other : ℕ) → Act
  unlinks_from : Process → (other : ℕ) → Act
  spawns : Process → (child : ℕ) → Entry → Act
  -- with the events before the exit: that of a return, or those of a raise
  exits : (partners : List Bool) → (reason : Tree) → List Event → Act

-- the process with these frames
abbrev pub with_frames : Process → List Frame → Process
with_frames q fs = record q { frames = fs }

-- one step on
abbrev pub next_step : Frame → Frame
next_step f = record f { place = f.place + 1 }

-- the frame with these values of variables
abbrev pub with_env : Frame → Env → Frame
with_env f env = record f { env = env }

-- the function with this number
abbrev pub mfa_at : List Function → ℕ → Option Mfa
mfa_at ks i = option_map mfa_of (slice_get ks i)

-- the function of the newest frame
abbrev pub caller_of : List Function → List Frame → Option Mfa
caller_of ks [] = None
caller_of ks (f ∷ fs) = mfa_at ks f.function

-- the most frames of a process
abbrev pub FRAMES : ℕ
FRAMES = 64

-- how a call is made: the target of its value, whether it names the module, and whether it is a catch
pub record Manner : Type 0 where
  pub target : Option Name
  pub named : Bool
  pub by_catch : Bool

-- naming the module
abbrev pub remotely : Option Name → Manner
remotely x = record { target = x; named = true; by_catch = false }

-- without naming it
abbrev pub locally : Option Name → Manner
locally x = record { target = x; named = false; by_catch = false }

-- naming it in a catch
abbrev pub catch_manner : Option Name → Manner
catch_manner x = record { target = x; named = true; by_catch = true }

-- a call of the function k with the number i, above these frames. Above the most frames it ends the process
abbrev pub enters_at : List Function → ℕ → Process → List Frame → Manner → List Tree → ℕ → Option Function → Act
enters_at ks n q fs a args i None = exits q.links (word "undef") []
enters_at ks n q fs a args i (Some k) =
    if nat_le FRAMES (length fs) then exits q.links (word "system_limit") [] else
    continues (record q { entry = None; frames = record { function = i; place = 0; env = params_bound ((codes "Self", pid n) ∷ []) k.params args; target = a.target; by_catch = a.by_catch } ∷ fs })
    (called n (record { mfa = mfa_of k; args = args; named = a.named; exported = k.exported; caller = caller_of ks fs; depth = length fs + 1 }) ∷ [])

-- a call of a function by its number; a program that keeps the static rules names only functions that are there
abbrev pub enters : List Function → ℕ → Process → List Frame → Manner → List Tree → Option ℕ → Act
enters ks n q fs a args None = exits q.links (word "undef") []
enters ks n q fs a args (Some i) = enters_at ks n q fs a args i (slice_get ks i)

-- the process goes on in the frame g, with a value at a target
abbrev pub resume : Process → Option Name → Tree → Frame → List Frame → Process
resume q x t g gs = record q { frames = record g { env = rebound_target x t g.env } ∷ gs }

-- a return from the entry frame is followed by the exit with reason `normal`
abbrev pub leaves_to : Process → Option Name → List Frame → Tree → Event → Act
leaves_to q x [] t e = exits q.links (word "normal") (e ∷ [])
leaves_to q x (g ∷ gs) t e = continues (resume q x t g gs) (e ∷ [])

-- a return of this value from a frame of the function k, above these frames
abbrev pub leaves : ℕ → Process → Function → Option Name → List Frame → Tree → Act
leaves n q k x fs t = leaves_to q x fs t (returned n (mfa_of k) t (length fs + 1))

-- ---- exceptions

-- an exception, by its class and its value
pub record Exception : Type 0 where
  pub class : Class
  pub value : Tree

-- what a raise in the newest of these frames raises: a throw where a catch step called none of them is the error {nocatch,T}
abbrev pub exception_of : List Frame → Class → Tree → Exception
exception_of fs throw t =
    if list_any (λ f. f.by_catch) fs then record { class = throw; value = t } else
    record { class = error; value = tuple (more (word "nocatch") (more t none)) }
exception_of fs c t = record { class = c; value = t }

-- the reason with which it ends a process, if it isn't caught: that of an error has a stack trace too, which is empty (own)
abbrev pub exit_reason : Class → Tree → Tree
exit_reason error t = tuple (more t (more (list none) none))
exit_reason c t = t

-- the value of the catch that catches it
abbrev pub caught_as : Class → Tree → Tree
caught_as throw t = t
caught_as c t = tuple (more (word "EXIT") (more (exit_reason c t) none))

-- the frames that it leaves, each with its depth: from the newest on down to the first that a catch step called, or else all
abbrev pub left_by : List Frame → List (Frame × ℕ)
left_by [] = []
left_by (f ∷ fs) = (f, length fs + 1) ∷ (if f.by_catch then [] else left_by fs)

-- the frames below those: none where it isn't caught
abbrev pub kept_by : List Frame → List Frame
kept_by [] = []
kept_by (f ∷ fs) = if f.by_catch then fs else kept_by fs

-- the target of the catch step that called the last of those left
abbrev pub catch_target : List Frame → Option Name
catch_target [] = None
catch_target (f ∷ fs) = if f.by_catch then f.target else catch_target fs

-- the event of a frame that is left
abbrev pub raised_in : List Function → ℕ → Exception → Frame × ℕ → Option Event
raised_in ks n e left = option_map (λ m. raised n m e.class e.value left.1) (mfa_at ks left.0.function)

-- where the entry frame is left too the process ends; else it goes on after the catch step
abbrev pub raises_to : Process → Option Name → List Frame → Exception → List Event → Act
raises_to q x [] e es = exits q.links (exit_reason e.class e.value) es
raises_to q x (g ∷ gs) e es = continues (resume q x (caught_as e.class e.value) g gs) es

-- an exception leaves frames from the newest on down
abbrev pub leaves_by : List Function → ℕ → Process → List Frame → Exception → Act
leaves_by ks n q fs e = raises_to q (catch_target fs) (kept_by fs) e (filter_map (raised_in ks n e) (left_by fs))

-- a raise of this class and value, in the newest of these frames
abbrev pub raises : List Function → ℕ → Process → List Frame → Class → Tree → Act
raises ks n q fs c t = leaves_by ks n q fs (exception_of fs c t)

-- ---- steps

-- a target of a send, link or unlink that is no pid ends the process
abbrev pub to_pid : (ℕ → Act) → List Bool → Option ℕ → Act
to_pid f ls (Some n) = f n
to_pid f ls None = exits ls (word "badarg") []

-- the process with its newest frame one step on
abbrev pub step_on : Process → Frame → List Frame → Process
step_on q f fs = record q { frames = next_step f ∷ fs }

-- and with a value at a target
abbrev pub binds : Process → Frame → List Frame → Option Name → Tree → Process
binds q f fs x t = record q { frames = record f { place = f.place + 1; env = rebound_target x t f.env } ∷ fs }

-- it waits while the mailbox is empty
abbrev pub receives : Process → Frame → List Frame → Option Name → List Tree → Act
receives q f fs x [] = waits (with_frames q (f ∷ fs))
receives q f fs x (t ∷ ts) = continues (record (binds q f fs x t) { mailbox = ts }) []

-- what follows where the built terms are within the limits; else the process ends, and nothing else of the step happens
abbrev pub within : {X : Type 0} → List Bool → Option X → (X → Act) → Act
within ls (Some t) f = f t
within ls None f = exits ls (word "system_limit") []

-- a send: both templates within the limits first, then the kind of the target
abbrev pub sends_to : Process → Frame → List Frame → Tree → Tree → Act
sends_to q f fs to t =
    within q.links (fit to) (λ to. within q.links (fit t) (λ t. to_pid (λ n. sends (step_on q f fs) n t) q.links (pid_in to)))

-- a call: its arguments within the limits first, then the frame
abbrev pub calls : List Function → ℕ → Process → Frame → List Frame → Manner → Name → Name → List Tree → Act
calls ks n q f fs a m g args =
    within q.links (fitting_all args) (λ args. enters ks n (step_on q f fs) (next_step f ∷ fs) a args (number_from 0 ks (record { module_name = m; function_name = g; arity = length args })))

-- a spawn with no pid left ends the process
abbrev pub spawns_at : Process → Frame → List Frame → Option Name → Name → Name → List Tree → Option ℕ → Act
spawns_at q f fs x m g args None = exits q.links (word "system_limit") []
spawns_at q f fs x m g args (Some child) = spawns (binds q f fs x (pid child)) child (record { module_name = m; function_name = g; args = args })

-- a spawn: its arguments within the limits first, then the pid
abbrev pub spawns_with : Process → Frame → List Frame → Option Name → Name → Name → List Tree → Option ℕ → Act
spawns_with q f fs x m g args child = within q.links (fitting_all args) (λ args. spawns_at q f fs x m g args child)

-- a link: its template within the limits first, then its kind
abbrev pub links_with : Process → Frame → List Frame → Tree → Act
links_with q f fs t = within q.links (fit t) (λ t. to_pid (λ m. links_to (step_on q f fs) m) q.links (pid_in t))

-- an unlink: its template within the limits first, then its kind
abbrev pub unlinks_with : Process → Frame → List Frame → Tree → Act
unlinks_with q f fs t = within q.links (fit t) (λ t. to_pid (λ m. unlinks_from (step_on q f fs) m) q.links (pid_in t))

-- one step of the newest frame f, whose function is k; q is the process without it. child is the pid that a spawn would give.
-- When the steps are used up the next step is a return of `ok`
abbrev pub performs : List Function → ℕ → Option ℕ → Process → Function → Frame → List Frame → Option Step → Act
performs ks n child q k f fs None = leaves n q k f.target fs (word "ok")
performs ks n child q k f fs (Some (send to t)) = sends_to q f fs (instance_of f.env to) (instance_of f.env t)
performs ks n child q k f fs (Some (receive x)) = receives q f fs x q.mailbox
performs ks n child q k f fs (Some (call_remote x m g ts)) = calls ks n q f fs (remotely x) m g (map (instance_of f.env) ts)
performs ks n child q k f fs (Some (call_local x g ts)) = calls ks n q f fs (locally x) k.module_name g (map (instance_of f.env) ts)
performs ks n child q k f fs (Some (catch x m g ts)) = calls ks n q f fs (catch_manner x) m g (map (instance_of f.env) ts)
performs ks n child q k f fs (Some (spawn x m g ts)) = spawns_with q f fs x m g (map (instance_of f.env) ts) child
performs ks n child q k f fs (Some (link t)) = links_with q f fs (instance_of f.env t)
performs ks n child q k f fs (Some (unlink t)) = unlinks_with q f fs (instance_of f.env t)
performs ks n child q k f fs (Some (give_back t)) = within q.links (fit (instance_of f.env t)) (leaves n q k f.target fs)
performs ks n child q k f fs (Some (raise c t)) = within q.links (fit (instance_of f.env t)) (raises ks n q (f ∷ fs) c)

-- a step of the newest frame, whose function is this one
abbrev pub runs_in : List Function → ℕ → Option ℕ → Process → Frame → List Frame → Option Function → Act
runs_in ks n child q f fs None = waits (with_frames q (f ∷ fs))
runs_in ks n child q f fs (Some k) = performs ks n child q k f fs (slice_get k.steps f.place)

-- a step of the newest frame
abbrev pub runs : List Function → ℕ → Option ℕ → Process → List Frame → Act
runs ks n child q [] = waits q
runs ks n child q (f ∷ fs) = runs_in ks n child (with_frames q fs) f fs (slice_get ks f.function)

-- the first step of a process makes its entry call, which names the module
abbrev pub begins : List Function → ℕ → Option ℕ → Process → Option Entry → Act
begins ks n child q (Some e) = enters ks n q q.frames (remotely None) e.args (number_from 0 ks (entry_mfa e))
begins ks n child q None = runs ks n child q q.frames

-- a pending exit signal is taken before anything else
abbrev pub act_after : List Function → ℕ → Option ℕ → Process → Option Tree → Act
act_after ks n child q (Some r) = exits q.links r []
act_after ks n child q None = begins ks n child q q.entry

-- the next step of the process q with the pid n
abbrev pub act : List Function → ℕ → Option ℕ → Process → Act
act ks n child q = act_after ks n child q q.signal
