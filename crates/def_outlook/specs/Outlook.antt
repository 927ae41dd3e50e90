-- What is known of the next step of a process before it is made: whether it is a run-time error, whether a catch step called one of its frames,
-- whether the process that it sends to waits, and whether it links the process with itself or unlinks it from itself (own). Nothing is built for it.
-- Laws say how it follows from the act.
-- Depends on what a process does at its next step, and on the node.
use Rattle.std.specs.Prelude.{ℕ, suc, ◌-◌, ◌==◌, nat_le, Bool, true, false, if◌then◌else◌, List, [], ◌∷◌, map, length, slice_get, Option, Some, None}
use Rattle.def_term.specs.Tree.{Tree, pid_in}
use Rattle.def_term.specs.Names.{Name, word}
use Rattle.def_term.specs.Alive.{FIRST_PID}
use Rattle.def_script.specs.Program.{Step, send, receive, call_remote, call_local, catch, spawn, link, unlink, give_back, raise, Function, Entry, entry_mfa, number_from}
use Rattle.def_node.specs.Values.{Env, instance_of, fits, all_fit}
use Rattle.def_node.specs.Process.{FRAMES, Frame, Process}
use Rattle.def_node.specs.Node.{World, next_pid}

-- a call of no function; a step that builds a term past the limits, a call past the greatest depth, a spawn past the last pid;
-- a send, a link or an unlink of what is no pid
pub data RuntimeError : Type 0 where
  calls_nothing : RuntimeError
  builds_past_limit : RuntimeError
  calls_past_limit : RuntimeError
  spawns_past_limit : RuntimeError
  sends_to_no_pid : RuntimeError
  links_to_no_pid : RuntimeError
  unlinks_from_no_pid : RuntimeError

-- the reason with which the process ends
abbrev pub error_reason : RuntimeError → Tree
error_reason calls_nothing = word "undef"
error_reason builds_past_limit = word "system_limit"
error_reason calls_past_limit = word "system_limit"
error_reason spawns_past_limit = word "system_limit"
error_reason x = word "badarg"

-- ---- the error of one step

-- a built term that isn't within the limits; or what follows
abbrev pub error_past : Bool → Option RuntimeError → Option RuntimeError
error_past b rest = if b then rest else Some builds_past_limit

-- a target that is no pid
abbrev pub error_without_pid : RuntimeError → Option ℕ → Option RuntimeError
error_without_pid x (Some n) = None
error_without_pid x None = Some x

-- a call above so many frames
abbrev pub error_entering_at : ℕ → Option Function → Option RuntimeError
error_entering_at count None = Some calls_nothing
error_entering_at count (Some k) = if nat_le FRAMES count then Some calls_past_limit else None

-- by the number of the function
abbrev pub error_entering : List Function → ℕ → Option ℕ → Option RuntimeError
error_entering ks count None = Some calls_nothing
error_entering ks count (Some i) = error_entering_at count (slice_get ks i)

-- a call of this name with these arguments
abbrev pub error_calling : List Function → ℕ → Name → Name → List Tree → Option RuntimeError
error_calling ks count m g args = error_past (all_fit args) (error_entering ks count (number_from 0 ks (record { module_name = m; function_name = g; arity = length args })))

-- a spawn with no pid left
abbrev pub error_without_child : Option ℕ → Option RuntimeError
error_without_child None = Some spawns_past_limit
error_without_child (Some child) = None

-- a send
abbrev pub error_sending : Env → (to t : Tree) → Option RuntimeError
error_sending env to t = error_past (fits (instance_of env to)) (error_past (fits (instance_of env t)) (error_without_pid sends_to_no_pid (pid_in (instance_of env to))))

-- a link or an unlink
abbrev pub error_linking : RuntimeError → Env → Tree → Option RuntimeError
error_linking x env t = error_past (fits (instance_of env t)) (error_without_pid x (pid_in (instance_of env t)))

-- a step of the frame f, the newest of so many, whose function is k
abbrev pub error_of_step : List Function → Option ℕ → Function → Frame → ℕ → Option Step → Option RuntimeError
error_of_step ks child k f count None = None
error_of_step ks child k f count (Some (send to t)) = error_sending f.env to t
error_of_step ks child k f count (Some (receive x)) = None
error_of_step ks child k f count (Some (call_remote x m g ts)) = error_calling ks count m g (map (instance_of f.env) ts)
error_of_step ks child k f count (Some (call_local x g ts)) = error_calling ks count k.module_name g (map (instance_of f.env) ts)
error_of_step ks child k f count (Some (catch x m g ts)) = error_calling ks count m g (map (instance_of f.env) ts)
error_of_step ks child k f count (Some (spawn x m g ts)) = error_past (all_fit (map (instance_of f.env) ts)) (error_without_child child)
error_of_step ks child k f count (Some (link t)) = error_linking links_to_no_pid f.env t
error_of_step ks child k f count (Some (unlink t)) = error_linking unlinks_from_no_pid f.env t
error_of_step ks child k f count (Some (give_back t)) = error_past (fits (instance_of f.env t)) None
error_of_step ks child k f count (Some (raise c t)) = error_past (fits (instance_of f.env t)) None

-- ---- the next step of a process

-- it takes an exit signal, makes its entry call, or has no step; or it makes this step of its newest frame, of so many, whose function is this
pub data Upcoming : Type 0 where
  takes_signal : Upcoming
  makes_entry : Entry → Upcoming
  has_no_step : Upcoming
  makes_step : Function → Frame → ℕ → Option Step → Upcoming

-- of the newest frame
abbrev pub upcoming_in : Frame → ℕ → Option Function → Upcoming
upcoming_in f count None = has_no_step
upcoming_in f count (Some k) = makes_step k f count (slice_get k.steps f.place)

-- of these frames
abbrev pub upcoming_of : List Function → List Frame → Upcoming
upcoming_of ks [] = has_no_step
upcoming_of ks (f ∷ fs) = upcoming_in f (suc (length fs)) (slice_get ks f.function)

-- the entry call comes first
abbrev pub upcoming_first : List Function → List Frame → Option Entry → Upcoming
upcoming_first ks fs (Some e) = makes_entry e
upcoming_first ks fs None = upcoming_of ks fs

-- and a pending exit signal before that
abbrev pub upcoming_after : List Function → List Frame → Option Entry → Option Tree → Upcoming
upcoming_after ks fs e (Some r) = takes_signal
upcoming_after ks fs e None = upcoming_first ks fs e

-- what the process does next
abbrev pub upcoming : List Function → Process → Upcoming
upcoming ks q = upcoming_after ks q.frames q.entry q.signal

-- the error that it is, of a process with so many frames
abbrev pub error_ahead : List Function → Option ℕ → ℕ → Upcoming → Option RuntimeError
error_ahead ks child count takes_signal = None
error_ahead ks child count (makes_entry e) = error_entering ks count (number_from 0 ks (entry_mfa e))
error_ahead ks child count has_no_step = None
error_ahead ks child count (makes_step k f n s) = error_of_step ks child k f n s

-- the error that the next step of the process is; child is the pid that a spawn would give
abbrev pub runtime_error : List Function → Option ℕ → Process → Option RuntimeError
runtime_error ks child q = error_ahead ks child (length q.frames) (upcoming ks q)

-- there is no message
abbrev pub has_no_message : List Tree → Bool
has_no_message [] = true
has_no_message (t ∷ ts) = false

-- whether it waits by this step, with these messages in the mailbox
abbrev pub waits_by : List Tree → Option Step → Bool
waits_by ts (Some (receive x)) = has_no_message ts
waits_by ts s = false

-- whether it can't move
abbrev pub waits_with : List Tree → Upcoming → Bool
waits_with ts takes_signal = false
waits_with ts (makes_entry e) = false
waits_with ts has_no_step = true
waits_with ts (makes_step k f n s) = waits_by ts s

-- whether the process waits: its next step is a receive, and its mailbox is empty; or it has no step
abbrev pub is_waiting : List Function → Process → Bool
is_waiting ks q = waits_with q.mailbox (upcoming ks q)

-- the pid to which a step sends, by these values of variables
abbrev pub addressee_by : Env → Option Step → Option ℕ
addressee_by env (Some (send to t)) = pid_in (instance_of env to)
addressee_by env s = None

-- the pid to which it sends
abbrev pub addressee_of : Upcoming → Option ℕ
addressee_of takes_signal = None
addressee_of (makes_entry e) = None
addressee_of has_no_step = None
addressee_of (makes_step k f n s) = addressee_by f.env s

-- the pid to which the next step of the process sends
abbrev pub addressee : List Function → Process → Option ℕ
addressee ks q = addressee_of (upcoming ks q)

-- a link of the process with itself, or an unlink from itself
pub data OwnLink : Type 0 where
  links_itself : OwnLink
  unlinks_itself : OwnLink

-- this one, where the process with the pid n links to itself, or unlinks from itself
abbrev pub own_link_to : ℕ → OwnLink → Option ℕ → Option OwnLink
own_link_to n x None = None
own_link_to n x (Some m) = if n == m then Some x else None

-- that of a step, by these values of variables
abbrev pub own_link_by : ℕ → Env → Option Step → Option OwnLink
own_link_by n env (Some (link t)) = own_link_to n links_itself (pid_in (instance_of env t))
own_link_by n env (Some (unlink t)) = own_link_to n unlinks_itself (pid_in (instance_of env t))
own_link_by n env s = None

-- the one that it is
abbrev pub own_link_of : ℕ → Upcoming → Option OwnLink
own_link_of n takes_signal = None
own_link_of n (makes_entry e) = None
own_link_of n has_no_step = None
own_link_of n (makes_step k f count s) = own_link_by n f.env s

-- the one that the next step of the process with the pid n is
abbrev pub own_link : List Function → ℕ → Process → Option OwnLink
own_link ks n q = own_link_of n (upcoming ks q)

-- the depth of the newest frame that a catch step called
abbrev pub catch_depth : List Frame → Option ℕ
catch_depth [] = None
catch_depth (f ∷ fs) = if f.by_catch then Some (suc (length fs)) else catch_depth fs

-- ---- a process among others

-- the error that the next step of the picked process is, the depth of its newest frame that a catch step called, whether the process to which the
-- step sends waits, and the link with itself or the unlink from itself that the step is
pub record Outlook : Type 0 where
  pub error : Option RuntimeError
  pub caught_at : Option ℕ
  pub is_awaited : Bool
  pub own_link : Option OwnLink

-- the process at a place
abbrev pub living_at : Option (Option Process) → Option Process
living_at None = None
living_at (Some o) = o

-- the process with this pid, where it is alive
abbrev pub process_with : World → ℕ → Option Process
process_with w n = if nat_le FIRST_PID n then living_at (slice_get w.slots (n - FIRST_PID)) else None

-- whether there is a process, which waits
abbrev pub one_waits : List Function → Option Process → Bool
one_waits ks None = false
one_waits ks (Some q) = is_waiting ks q

-- whether the process with this pid waits
abbrev pub waits_at : List Function → World → Option ℕ → Bool
waits_at ks w None = false
waits_at ks w (Some n) = one_waits ks (process_with w n)

-- where no process is picked nothing is ahead
abbrev pub nothing_ahead : Outlook
nothing_ahead = record { error = None; caught_at = None; is_awaited = false; own_link = None }

-- of this process, which has the pid n
abbrev pub outlook_of : List Function → World → ℕ → Option Process → Outlook
outlook_of ks w n None = nothing_ahead
outlook_of ks w n (Some q) = record {
  error = runtime_error ks (next_pid w) q;
  caught_at = catch_depth q.frames;
  is_awaited = waits_at ks w (addressee ks q);
  own_link = own_link ks n q;
}

-- what is known of the next step of the process that is picked
abbrev pub outlook : List Function → World → ℕ → Outlook
outlook ks w n = outlook_of ks w n (process_with w n)
