-- What a node reports of an event, by what it looks at.
use Rattle.std.specs.Prelude.{ℕ, Bool, false, not, ◌&&◌, if◌then◌else◌, List, [], ◌++◌, Option, option_to_list}
use Rattle.std.specs.Option.{is_some}
use Rattle.def_term.specs.Alive.{is_alive}
use Rattle.def_term.specs.Tree.{Tree}
use Rattle.def_term.specs.Names.{word}
use Rattle.def_spec.specs.Flags.{call_flag, procs_flag, silent_flag}
use Rattle.def_node.specs.Event.{Event, sent, received, returned, raised, exited, linked, getting_unlinked}
use Rattle.def_outlook.specs.Outlook.{Outlook}
use Rattle.def_session.specs.Messages.{process_of}
use Rattle.def_session.specs.Session.{is_for_exceptions}
use Rattle.def_session.specs.State.{Session, flags_at}
use Rattle.def_running_node.specs.NodeSessions.{NodeMark, kind_at, is_decided, message_where, message_unless}
use Rattle.def_running_node.specs.NodeRuns.{NodeRun, signal_of, is_reported_exit, has_ended, ends_by_error, exceptions_of, exit_messages, with_calls}
use Rattle.tn_running_node.specs.declared.sight.Sight.{Sight}

-- a match specification decides the message of a send or a receive
abbrev pub decides_in : Session → Event → Bool
decides_in s (sent p t to alive) = is_decided s.sending
decides_in s (received p sender t) = is_decided s.receiving
decides_in s e = false

-- what is looked at before an event and after it
pub record SightView : Type 0 where
  pub is_decided : Bool
  pub has_call : Bool
  pub has_procs : Bool
  pub is_silent : Bool

abbrev pub sight_view : Sight → SightView
sight_view v = record { is_decided = v.is_decided; has_call = v.has_call; has_procs = v.has_procs; is_silent = v.is_silent }

-- before an event, where the process is silent after it or isn't
abbrev pub sight_in : Session → Event → (is_silent : Bool) → SightView
sight_in s e b = record {
  is_decided = decides_in s e;
  has_call = flags_at s (process_of e) call_flag;
  has_procs = flags_at s (process_of e) procs_flag;
  is_silent = b;
}

-- as it is after it
abbrev pub silent_by : SightView → (after : Session) → Event → SightView
silent_by v t e = record v { is_silent = flags_at t (process_of e) silent_flag }

abbrev pub sight_of : Session → (after : Session) → Event → SightView
sight_of s t e = sight_in s e (flags_at t (process_of e) silent_flag)

-- by the marks and by what is looked at
abbrev pub messages_by : List NodeMark → SightView → Event → Option Tree → List Tree
messages_by ms v (sent p x to alive) m = message_unless (v.is_decided && v.is_silent) m
messages_by ms v (received p sender x) m = message_unless (v.is_decided && v.is_silent) m
messages_by ms v (returned p f x depth) m = message_where (is_some (kind_at ms p depth) && v.has_call) (returned p f x depth)
messages_by ms v (raised p f c x depth) m = message_where (is_for_exceptions (kind_at ms p depth) && v.has_call) (raised p f c x depth)
messages_by ms v e m = option_to_list m

-- where the process has the flag `call`
abbrev pub error_messages_by : List NodeMark → (has_call : Bool) → ℕ → Tree → List Tree
error_messages_by ms b p x = if b then exceptions_of ms p x else []

-- of a link to a process that isn't alive
abbrev pub noproc_messages_by : List NodeMark → SightView → ℕ → List Tree
noproc_messages_by ms v p = error_messages_by ms v.has_call p (word "noproc") ++ message_where v.has_procs (exited p (with_calls (word "noproc")))

-- of an exit that isn't reported already
abbrev pub exit_messages_by : NodeRun → Outlook → List NodeMark → SightView → ℕ → Tree → Option Tree → List Tree
exit_messages_by r l ms v p x m = (if is_some l.error then error_messages_by ms v.has_call p x else []) ++ exit_messages (ends_by_error r l p) p x m

-- an exit that isn't reported already, and that isn't by an error
abbrev pub is_plain_exit : NodeRun → Outlook → ℕ → Bool
is_plain_exit r l p = not (is_reported_exit (signal_of r.signals p)) && not (ends_by_error r l p)

abbrev pub run_messages_by : NodeRun → Outlook → List NodeMark → SightView → Event → Option Tree → List Tree
run_messages_by r l ms v (exited p x) m = if is_reported_exit (signal_of r.signals p) then [] else exit_messages_by r l ms v p x m
run_messages_by r l ms v (getting_unlinked p q) m = message_unless (has_ended r.ended q) m
run_messages_by r l ms v (linked p q) m = option_to_list m ++ (if is_alive r.alive q then [] else noproc_messages_by ms v p)
run_messages_by r l ms v e m = messages_by ms v e m
