-- What the code's replies stand for.
use Rattle.std.specs.Prelude.{◌≡◌, ℕ, Bool, ◌∷◌, map}
use Rattle.std.specs.Arc.{arc_value}
use Rattle.def_term.specs.Tree.{Tree, int}
use Rattle.def_term.specs.Names.{word}
use Rattle.def_spec.specs.Reading as reading
use Rattle.def_session.specs.State as definition
use Rattle.def_script.specs.Exports.{Exports}
use Rattle.def_session.specs.Commands as commands
use Rattle.def_session.specs.Commands.{fault_term, number_term, matching_count, procs_of, how_of, flags_set, flags_set_if, function_set_if, send_set, receive_set, done_live, command_done}
use Rattle.def_session.specs.Settings as settings
use Rattle.def_session.specs.Settings.{trace_pattern_of, options_of, setting_of}
use Rattle.def_script.specs.Program.{Command}
use Rattle.def_spec.specs.Flags.{Flags, flags_listed}
use Rattle.def_spec.specs.Expressions.{for_sends, for_receives}
use Rattle.tn_spec.specs.declared.fault.SpecFault.{SpecFault}
use Rattle.tn_spec.specs.declared.fault.SpecFault.TheVariants as faults
use Rattle.tn_session.specs.Views.{function_seen, state_seen}
use Rattle.tn_session.specs.declared.reply.Reply.{Reply}
use Rattle.tn_session.specs.declared.reply.Reply.TheVariants.{True, False, Badarg, Unsupported, Count}
use Rattle.tn_session.specs.declared.state.State.{State}

abbrev pub reply_seen : {A : Type 0} → Reply A → Tree
reply_seen True = word "true"
reply_seen False = word "false"
reply_seen Badarg = fault_term reading.badarg
reply_seen (Unsupported s) = fault_term (reading.unsupported s)
reply_seen (Count n) = int n

-- the reply to the fault; want of memory, and a term of 2^32 parts or more, have none
abbrev pub IsReplyTo : {A : Type 0} → SpecFault A → Tree → Type 0
IsReplyTo faults.Badarg t = t ≡ fault_term reading.badarg
IsReplyTo (faults.Unsupported s) t = t ≡ fault_term (reading.unsupported s)
IsReplyTo faults.TooLarge t = ⊥
IsReplyTo faults.OutOfMemory t = ⊥

-- what the session knows of the program
abbrev pub opening_in : {A : Type 0} → State A → ℕ → Exports
opening_in s n = record { functions = map function_seen (arc_value s.functions).items; processes = n }

-- a command was done: the definition's answer is this state with this reply
abbrev pub IsDone : {A : Type 0} → State A → Tree → commands.CommandResult → Type 0
IsDone new reply done = done ≡ (state_seen new, reply)

-- an accepted function command is the newest, and replies the number of its functions
abbrev pub covered_so : Exports → definition.Session → settings.FunctionSetting → commands.CommandResult
covered_so o s k = (record s { functions = k ∷ s.functions }, number_term (matching_count o k))

-- flags of processes were set or cleared
abbrev pub AreFlagsSet : {A : Type 0} → State A → commands.Procs → Bool → Flags → State A → Tree → Type 0
AreFlagsSet old procs on f new reply = IsDone new reply (flags_set (state_seen old) procs on f)

-- the same, of arguments that may be no good
abbrev pub IsProcessDone : {A : Type 0} → State A → (procs how flags : Tree) → State A → Tree → Type 0
IsProcessDone old procs how flags new reply = IsDone new reply (flags_set_if (state_seen old) (procs_of procs) (how_of how) (flags_listed flags))

-- a function command was accepted
abbrev pub AddsSetting : {A : Type 0} → State A → settings.FunctionSetting → State A → Tree → Type 0
AddsSetting old k new reply = (n : ℕ) → IsDone new reply (covered_so (opening_in old n) (state_seen old) k)

-- a function command was done
abbrev pub IsFunctionDone : {A : Type 0} → State A → (mfa spec options : Tree) → State A → Tree → Type 0
IsFunctionDone old mfa spec options new reply =
    (n : ℕ) → IsDone new reply (function_set_if (opening_in old n) (state_seen old) (trace_pattern_of mfa) (options_of options) spec)

-- a send setting was set
abbrev pub IsSendDone : {A : Type 0} → State A → Tree → State A → Tree → Type 0
IsSendDone old spec new reply = IsDone new reply (send_set (state_seen old) (setting_of for_sends spec))

-- a receive setting was set
abbrev pub IsReceiveDone : {A : Type 0} → State A → Tree → State A → Tree → Type 0
IsReceiveDone old spec new reply = IsDone new reply (receive_set (state_seen old) (setting_of for_receives spec))

-- a command to a live session was done
abbrev pub IsLiveDone : {A : Type 0} → State A → Command → State A → Tree → Type 0
IsLiveDone old c new reply = (n : ℕ) → IsDone new reply (done_live (opening_in old n) (state_seen old) c)

-- a command was done
abbrev pub IsCommandDone : {A : Type 0} → State A → Command → State A → Tree → Type 0
IsCommandDone old c new reply = (n : ℕ) → IsDone new reply (command_done (opening_in old n) (state_seen old) c)
