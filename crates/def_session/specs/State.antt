-- The state of one session (trace:session_create/3, process/4).
-- Depends on flags, on settings and on which processes are alive.
use Rattle.std.specs.Prelude.{ℕ, ◌-◌, ◌==◌, true, false, if◌then◌else◌, List, [], ◌∷◌, ◌++◌, replicate, slice_get, slice_set, Option, Some, None}
use Rattle.std.specs.Option.{unwrap_or}
use Rattle.def_term.specs.Alive.{FIRST_PID, PROCESSES, Alive, with_alive}
use Rattle.def_script.specs.Exports.{Exports}
use Rattle.def_spec.specs.Flags.{Flags, no_flags, FlagTable, flags_in, with_flags_in}
use Rattle.def_session.specs.Settings.{FunctionSetting, Setting, plain}
use Rattle.def_node.specs.Event.{Event, spawned, exited}

-- before its creation, from then on, and after its destruction
pub data Phase : Type 0 where
  absent live destroyed : Phase

-- what a mark is for: that the call's return is reported alone, or an exception that leaves its frame too
pub data MarkKind : Type 0 where
  for_returns for_exceptions : MarkKind

-- the mark of a frame, by the frame's depth
pub record Mark : Type 0 where
  pub depth : ℕ
  pub kind : MarkKind

-- its own flags for each process and for new processes, its settings, and its marked frames
pub record Session : Type 0 where
  pub phase : Phase
  pub alive : Alive
  pub flags : FlagTable
  pub new_process_flags : Flags
  -- accepted function commands, the newest first
  pub functions : List FunctionSetting
  pub sending : Setting
  pub receiving : Setting
  -- of the processes from the first pid on, the marks of frames, the newest first
  pub marks : List (List Mark)

-- the initial processes are alive
abbrev pub alive_at_start : ℕ → Alive
alive_at_start n = replicate n true ++ replicate (PROCESSES - n) false

-- a session without settings: no flags, no function settings, send and receive `true`
abbrev pub new_session : Phase → Alive → Session
new_session phase alive = record {
  phase = phase;
  alive = alive;
  flags = replicate PROCESSES no_flags;
  new_process_flags = no_flags;
  functions = [];
  sending = plain;
  receiving = plain;
  marks = replicate PROCESSES [];
}

-- before the session is created
abbrev pub absent_session : Exports → Session
absent_session o = new_session absent (alive_at_start o.processes)

-- the flags of a process
abbrev pub flags_at : Session → ℕ → Flags
flags_at s n = flags_in s.flags n

-- the flags of a process changed
abbrev pub with_flags : Session → ℕ → Flags → Session
with_flags s n f = record s { flags = with_flags_in s.flags n f }

-- the marks of a process
abbrev pub marks_at : Session → ℕ → List Mark
marks_at s n = unwrap_or (slice_get s.marks (n - FIRST_PID)) []

-- the marks of a process changed
abbrev pub with_marks : Session → ℕ → List Mark → Session
with_marks s n ms = record s { marks = slice_set s.marks (n - FIRST_PID) ms }

-- the kind of the newest of these marks that is of this depth
abbrev pub kind_among : List Mark → ℕ → Option MarkKind
kind_among [] depth = None
kind_among (m ∷ ms) depth = if m.depth == depth then Some m.kind else kind_among ms depth

-- the kind of the mark that the frame of this depth has, if it has one
abbrev pub mark_of : Session → ℕ → ℕ → Option MarkKind
mark_of s n depth = kind_among (marks_at s n) depth

-- which processes are alive after an event
abbrev pub alive_after : Alive → Event → Alive
alive_after alive (spawned p parent f args) = with_alive alive p true
alive_after alive (exited p r) = with_alive alive p false
alive_after alive _ = alive
