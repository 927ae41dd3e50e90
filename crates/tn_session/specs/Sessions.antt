-- What a session stands for, and what its calls give.
use Rattle.std.specs.Prelude.{ℕ, List, Bool, map, Option, Some, None, if◌then◌else◌}
use Rattle.std.specs.Option.{option_map}
use Rattle.std.specs.Arc.{arc_value}
use Rattle.def_term.specs.Names as names
use Rattle.def_term.specs.Alive.{Alive}
use Rattle.def_spec.specs.Flags.{Flags, FlagTable}
use Rattle.def_session.specs.State as definition
use Rattle.def_script.specs.Exports.{Exports}
use Rattle.tn_session.specs.Views.{state_seen, function_seen}
use Rattle.tn_session.specs.declared.state.State.{State}
use Rattle.tn_session.specs.declared.session.Session.{Session}

-- a session that was not refused memory: the functions of the program, each with whether it is exported, and the state
pub record SessionValue : Type 0 where
  pub functions : List (names.Mfa × Bool)
  pub state : definition.Session

abbrev pub session_seen : {A : Type 0} → State A → SessionValue
session_seen c = record { functions = map function_seen (arc_value c.functions).items; state = state_seen c }

-- what a session stands for; nothing once it was refused memory
abbrev pub value_in : {A : Type 0} → Session A → Option SessionValue
value_in c = if c.is_spent then None else Some (session_seen c.state)

-- the session in the state that the definition gives, beside what it answers
abbrev pub next_session : {T : Type 0} → SessionValue → definition.Session × T → Option SessionValue × T
next_session s r = (Some (record s { state = r.0 }), r.1)

-- the session with these flags for new processes
abbrev pub with_new_process_flags : Flags → SessionValue → SessionValue
with_new_process_flags f s = record s { state = record s.state { new_process_flags = f } }

-- what the definition needs of the program for a command, which has so many processes at its start
abbrev pub exports_in : SessionValue → ℕ → Exports
exports_in s n = record { functions = s.functions; processes = n }

-- what events change of a session: who lives, the flags of processes and the marks of their frames
pub record SessionProcesses : Type 0 where
  pub alive : Alive
  pub flags : FlagTable
  pub marks : List (List definition.Mark)

abbrev pub processes_in : definition.Session → SessionProcesses
processes_in s = record { alive = s.alive; flags = s.flags; marks = s.marks }

-- the same of a session that was not refused memory
abbrev pub processes_of : Option SessionValue → Option SessionProcesses
processes_of v = option_map (λ s. processes_in s.state) v
