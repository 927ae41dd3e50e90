-- What the code's events and commands stand for.
use Rattle.std.specs.Prelude.{map, replicate}
use Rattle.std.specs.Option.{option_map}
use Rattle.tn_term.specs.Views.{tree_of, mfa_seen}
use Rattle.tn_term.specs.SharedTree.{shared_tree}
use Rattle.def_script.specs.Program as program
use Rattle.def_node.specs.Event as event
use Rattle.tn_flags.specs.declared.class.Class.{Class}
use Rattle.tn_flags.specs.declared.class.Class.TheVariants.{Error, Throw, Exit}
use Rattle.tn_flags.specs.declared.event.Event.{Event}
use Rattle.tn_flags.specs.declared.event.Event.TheVariants.{Sent, Received, Called, Returned, Raised, Spawn, Spawned, Exited, Linked, Unlinked, GettingLinked, GettingUnlinked}
use Rattle.tn_flags.specs.declared.event.Call.{Call}
use Rattle.def_spec.specs.Flags as flag
use Rattle.def_spec.specs.Flags.{send_flag, receive_flag, call_flag, procs_flag, silent_flag, arity_flag, set_on_spawn, set_on_first_spawn, set_on_link, set_on_first_link}
use Rattle.tn_flags.specs.declared.flags.Flags.{Flags}
use Rattle.def_term.specs.Alive.{PROCESSES}
use Rattle.tn_flags.specs.declared.table.FlagTable.{FlagTable}
use Rattle.tn_flags.specs.declared.command.Command.{Command}
use Rattle.tn_flags.specs.declared.command.Command.TheVariants.{SessionCreate, SessionDestroy, Process, Function, Send, Recv}

abbrev pub call_seen : {A : Type 0} → Call A → event.Call
call_seen c = record { mfa = mfa_seen c.mfa; args = map shared_tree c.args.items; named = c.named; exported = c.exported; caller = option_map mfa_seen c.caller; depth = c.depth }

abbrev pub class_of : Class → program.Class
class_of Error = program.error
class_of Throw = program.throw
class_of Exit = program.exit

abbrev pub event_of : {A : Type 0} → Event A → event.Event
event_of (Sent p t to alive) = event.sent p (shared_tree t) to alive
event_of (Received p sender t) = event.received p sender (shared_tree t)
event_of (Called p c) = event.called p (call_seen c)
event_of (Returned p f t depth) = event.returned p (mfa_seen f) (shared_tree t) depth
event_of (Raised p f class t depth) = event.raised p (mfa_seen f) (class_of class) (shared_tree t) depth
event_of (Spawn p child f args) = event.spawning p child (mfa_seen f) (map shared_tree args.items)
event_of (Spawned p parent f args) = event.spawned p parent (mfa_seen f) (map shared_tree args.items)
event_of (Exited p t) = event.exited p (tree_of t)
event_of (Linked p q) = event.linked p q
event_of (Unlinked p q) = event.unlinked p q
event_of (GettingLinked p q) = event.getting_linked p q
event_of (GettingUnlinked p q) = event.getting_unlinked p q

abbrev pub command_of : {A : Type 0} → Command A → program.Command
command_of (SessionCreate s tracer) = program.create s tracer
command_of (SessionDestroy s) = program.destroy s
command_of (Process s procs how flags) = program.set_processes s (tree_of procs) (tree_of how) (tree_of flags)
command_of (Function s mfa spec options) = program.set_function s (tree_of mfa) (tree_of spec) (tree_of options)
command_of (Send s spec) = program.set_send s (tree_of spec)
command_of (Recv s spec) = program.set_receive s (tree_of spec)

-- whether a flag is in a set
abbrev pub flags_of : Flags → flag.Flags
flags_of s send_flag = s.send
flags_of s receive_flag = s.receive
flags_of s call_flag = s.call
flags_of s procs_flag = s.procs
flags_of s silent_flag = s.silent
flags_of s arity_flag = s.arity
flags_of s set_on_spawn = s.set_on_spawn
flags_of s set_on_first_spawn = s.set_on_first_spawn
flags_of s set_on_link = s.set_on_link
flags_of s set_on_first_link = s.set_on_first_link

-- the flags of all processes
abbrev pub table_of : FlagTable → flag.FlagTable
table_of t = map flags_of t.flags

-- none of them has one
abbrev pub no_flags_of_any : flag.FlagTable
no_flags_of_any = replicate PROCESSES flag.no_flags
