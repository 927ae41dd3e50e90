-- What one command does to its session, and its reply (trace:session_create/3, session_destroy/1, process/4, function/4, send/3, recv/3).
-- Depends on the session's state and settings, on flags and on the reading of specifications.
use Rattle.std.specs.Prelude.{ℕ, Bool, true, false, if◌then◌else◌, List, [], ◌∷◌, length, filter, Option, Some, None, Ok, Err, pos}
use Rattle.def_term.specs.Tree.{Tree, int, atom, pid, tuple, none, more}
use Rattle.def_term.specs.Order.{same}
use Rattle.def_term.specs.Names.{word}
use Rattle.def_term.specs.Alive.{Alive, is_alive, living_count}
use Rattle.def_script.specs.Program.{Command, create, destroy, set_processes, set_function, set_send, set_receive}
use Rattle.def_script.specs.Exports.{Exports}
use Rattle.def_spec.specs.Flags.{Flags, union, without, flags_listed}
use Rattle.def_spec.specs.Expressions.{for_calls, for_sends, for_receives}
use Rattle.def_spec.specs.Reading.{SpecFault, badarg, unsupported, Reads}
use Rattle.def_session.specs.Settings.{FunctionPattern, Setting, FunctionSetting, setting_of, trace_pattern_of, options_of, has_among}
use Rattle.def_session.specs.State.{Phase, absent, live, destroyed, Session, new_session, flags_at, with_flags}

-- the session afterwards, and the reply
abbrev pub CommandResult : Type 0
CommandResult = Session × Tree

-- a count as a reply
abbrev pub number_term : ℕ → Tree
number_term n = int (pos n)

-- a command with this reply changes nothing
abbrev pub refuse : Session → CommandResult
refuse s = (s, word "badarg")

-- `badarg` or {unsupported,Name}
abbrev pub fault_term : SpecFault → Tree
fault_term badarg = word "badarg"
fault_term (unsupported s) = tuple (more (word "unsupported") (more (atom s) none))

-- ---- flags of processes

-- the processes that a command is about: a living pid, `existing`, `new`, or `all`, which is both together
pub data Procs : Type 0 where
  one_process : ℕ → Procs
  existing : Procs
  new_processes : Procs
  all_processes : Procs

-- any other term is none
abbrev pub procs_of : Tree → Option Procs
procs_of (pid n) = Some (one_process n)
procs_of t =
    if same t (word "existing") then Some existing else
    if same t (word "new") then Some new_processes else
    if same t (word "all") then Some all_processes else None

-- whether it sets: How is `true` or `false`
abbrev pub how_of : Tree → Option Bool
how_of t = if same t (word "true") then Some true else if same t (word "false") then Some false else None

-- sets (How `true`) or clears (`false`)
abbrev pub changed_flags : Bool → Flags → Flags → Flags
changed_flags on f old = if on then union old f else without old f

-- the flags of each living process changed
abbrev pub all_changed : Bool → Flags → Alive → List Flags → List Flags
all_changed on f alive [] = []
all_changed on f [] (g ∷ gs) = g ∷ gs
all_changed on f (b ∷ bs) (g ∷ gs) = (if b then changed_flags on f g else g) ∷ all_changed on f bs gs

-- `existing`: the living processes
abbrev pub existing_changed : Bool → Flags → Session → Session
existing_changed on f s = record s { flags = all_changed on f s.alive s.flags }

-- `new`: the flags for new processes
abbrev pub new_changed : Bool → Flags → Session → Session
new_changed on f s = record s { new_process_flags = changed_flags on f s.new_process_flags }

-- replies the count of processes: 1 for a living pid, the living ones for `existing` and `all`, 0 for `new` (own)
abbrev pub flags_set : Session → Procs → Bool → Flags → CommandResult
flags_set s (one_process n) on f = if is_alive s.alive n then (with_flags s n (changed_flags on f (flags_at s n)), number_term 1) else refuse s
flags_set s existing on f = (existing_changed on f s, number_term (living_count s.alive))
flags_set s new_processes on f = (new_changed on f s, number_term 0)
flags_set s all_processes on f = (existing_changed on f (new_changed on f s), number_term (living_count s.alive))

-- an unknown Procs, How or flag, or Flags that is no list, is refused
abbrev pub flags_set_if : Session → Option Procs → Option Bool → Option Flags → CommandResult
flags_set_if s (Some procs) (Some on) (Some f) = flags_set s procs on f
flags_set_if s _ _ _ = refuse s

-- ---- settings

-- the number of matching functions
abbrev pub matching_count : Exports → FunctionSetting → ℕ
matching_count o k = length (filter (λ f. has_among k f.0 f.1) o.functions)

-- an accepted function command is the newest
abbrev pub function_set : Exports → Session → FunctionPattern → Bool → Reads Setting → CommandResult
function_set o s covered local (Err e) = (s, fault_term e)
function_set o s covered local (Ok setting) =
    let k : FunctionSetting = record { covered = covered; setting = setting; local = local } in
    (record s { functions = k ∷ s.functions }, number_term (matching_count o k))

-- faults of the other arguments come before the specification's
abbrev pub function_set_if : Exports → Session → Option FunctionPattern → Option Bool → Tree → CommandResult
function_set_if o s (Some covered) (Some local) spec = function_set o s covered local (setting_of for_calls spec)
function_set_if o s _ _ spec = refuse s

-- sets the send setting; replies 1
abbrev pub send_set : Session → Reads Setting → CommandResult
send_set s (Err e) = (s, fault_term e)
send_set s (Ok setting) = (record s { sending = setting }, number_term 1)

-- sets the receive setting; replies 1
abbrev pub receive_set : Session → Reads Setting → CommandResult
receive_set s (Err e) = (s, fault_term e)
receive_set s (Ok setting) = (record s { receiving = setting }, number_term 1)

-- ---- one command

-- a command to a live session
abbrev pub done_live : Exports → Session → Command → CommandResult
done_live o s (create name tracer) = refuse s
done_live o s (destroy name) = (new_session destroyed s.alive, word "true")
done_live o s (set_processes name procs how flags) = flags_set_if s (procs_of procs) (how_of how) (flags_listed flags)
done_live o s (set_function name mfa spec options) = function_set_if o s (trace_pattern_of mfa) (options_of options) spec
done_live o s (set_send name spec) = send_set s (setting_of for_sends spec)
done_live o s (set_receive name spec) = receive_set s (setting_of for_receives spec)

-- only the creation of an absent session is possible; it replies {session,Name} (own)
abbrev pub done_absent : Session → Command → CommandResult
done_absent s (create name tracer) = (record s { phase = live }, tuple (more (word "session") (more (atom name) none)))
done_absent s _ = refuse s

-- any other command on a destroyed session replies `badarg`
abbrev pub done_destroyed : Session → Command → CommandResult
done_destroyed s (destroy name) = (s, word "false")
done_destroyed s _ = refuse s

-- by the session's phase
abbrev pub done_in : Phase → Exports → Session → Command → CommandResult
done_in absent o s c = done_absent s c
done_in live o s c = done_live o s c
done_in destroyed o s c = done_destroyed s c

-- one command
abbrev pub command_done : Exports → Session → Command → CommandResult
command_done o s c = done_in s.phase o s c
