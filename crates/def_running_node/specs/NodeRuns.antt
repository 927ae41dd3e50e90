-- What the sessions of a running node report of a run, beside those of the model, as far as it is determined (own, as measured on OTP 27.3.4 (erts 15.2.7)).
-- There an exit signal ends a process at once, and the link that it came by is gone without a message; the send, link or unlink of what is no pid is an error as any other, and so is `noproc` of a link to a process that isn't alive;
-- the reason of an error has the list of calls, which is read as `[]`; a link with itself is reported; and the limits of the model are none.
-- Depends on one session of a node, on events, and on what is known of a step before it is made.
use Rattle.std.specs.Prelude.{ℕ, ◌==◌, Bool, true, false, not, ◌&&◌, ◌||◌, if◌then◌else◌, List, [], ◌∷◌, ◌++◌, map, filter, Option, Some, None, option_to_list}
use Rattle.std.specs.List.{list_any}
use Rattle.std.specs.Option.{is_some}
use Rattle.std.specs.Str.{bytes_eq}
use Rattle.def_term.specs.Alive.{Alive, is_alive, with_alive}
use Rattle.def_term.specs.Tree.{Tree}
use Rattle.def_term.specs.Order.{same}
use Rattle.def_term.specs.Names.{word}
use Rattle.def_script.specs.Program.{error}
use Rattle.def_spec.specs.Flags.{call_flag, procs_flag}
use Rattle.def_node.specs.Event.{Event, raised, spawned, exited, linked, getting_unlinked}
use Rattle.def_node.specs.Process.{exit_reason}
use Rattle.def_outlook.specs.Outlook.{RuntimeError, builds_past_limit, calls_past_limit, spawns_past_limit, Outlook}
use Rattle.def_session.specs.State.{MarkKind, for_returns, for_exceptions, Session, flags_at}
use Rattle.def_explain.specs.Differences.{Difference, node_ends, reads_freed, ignores_silent, evaluates_from_right, faults_in_logic, reads_no_list, evaluation_differences, is_attempt_by}
use Rattle.def_running_node.specs.NodeSessions.{NodeMark, NodeSession, message_where, node_messages}

-- ---- the processes

-- a process that gets an exit signal, and ends here at its next step: whether the reason is that of an error, and whether the exit was reported there already
pub record Signal : Type 0 where
  pub process : ℕ
  pub of_error : Bool
  pub is_reported : Bool

-- the processes that are alive, those that have a signal, the process that ended last, unless with the reason `normal`, and whether by an error;
-- and whether the run on a node is determined
pub record NodeRun : Type 0 where
  pub alive : Alive
  pub signals : List Signal
  pub ended : Option (ℕ × Bool)
  pub is_determined : Bool

-- the signal of a process
abbrev pub signal_of : List Signal → ℕ → Option Signal
signal_of [] p = None
signal_of (x ∷ xs) p = if x.process == p then Some x else signal_of xs p

-- the first signal counts
abbrev pub signals_with : Signal → List Signal → List Signal
signals_with x xs = if is_some (signal_of xs x.process) then xs else xs ++ x ∷ []

abbrev pub without_signal : ℕ → List Signal → List Signal
without_signal p xs = filter (λ x. not (x.process == p)) xs

-- there is one whose reason is that of an error
abbrev pub is_of_error : Option Signal → Bool
is_of_error None = false
is_of_error (Some x) = x.of_error

-- there is one whose exit was reported
abbrev pub is_reported_exit : Option Signal → Bool
is_reported_exit None = false
is_reported_exit (Some x) = x.is_reported

-- nobody has a signal, or the process that moves has one
abbrev pub may_move : List Signal → ℕ → Bool
may_move [] pick = true
may_move (x ∷ xs) pick = is_some (signal_of (x ∷ xs) pick)

-- a move: on a node every process that has a signal has ended
abbrev pub at_move : NodeRun → (pick : ℕ) → NodeRun
at_move r pick = record r { is_determined = r.is_determined && may_move r.signals pick }

-- ---- errors

-- a limit of the model, which a node doesn't have
abbrev pub is_limit : RuntimeError → Bool
is_limit builds_past_limit = true
is_limit calls_past_limit = true
is_limit spawns_past_limit = true
is_limit x = false

-- the step is an error there, which a catch catches, or none
abbrev pub goes_on_with : Option RuntimeError → (caught_at : Option ℕ) → Bool
goes_on_with None depth = false
goes_on_with (Some x) depth = is_limit x || is_some depth

abbrev pub goes_on : Outlook → Bool
goes_on l = goes_on_with l.error l.caught_at

-- the exit is by an error: of this step, or of a signal's reason
abbrev pub ends_by_error : NodeRun → Outlook → ℕ → Bool
ends_by_error r l p = is_some l.error || is_of_error (signal_of r.signals p)

-- the reason of an error has the list of calls
abbrev pub with_calls : Tree → Tree
with_calls t = exit_reason error t

-- ---- what becomes of the processes

-- the process that ended, unless with the reason `normal`
abbrev pub ended_by : (p : ℕ) → (reason : Tree) → (of_error : Bool) → Option (ℕ × Bool)
ended_by p reason b = if same reason (word "normal") then None else Some (p, b)

-- this process ended last, and not with the reason `normal`
abbrev pub has_ended : Option (ℕ × Bool) → ℕ → Bool
has_ended None q = false
has_ended (Some e) q = e.0 == q

-- the partner of a process that ended gets the signal
abbrev pub signals_after_end : Option (ℕ × Bool) → (p q : ℕ) → List Signal → List Signal
signals_after_end None p q xs = xs
signals_after_end (Some e) p q xs = if e.0 == q then signals_with (record { process = p; of_error = e.1; is_reported = false }) xs else xs

-- with these, and determined as far as it was and this says
abbrev pub run_with : NodeRun → List Signal → (is_determined : Bool) → NodeRun
run_with r xs b = record r { signals = xs; is_determined = r.is_determined && b }

abbrev pub run_after : NodeRun → Outlook → Event → NodeRun
run_after r l (exited p reason) =
    record (run_with r (without_signal p r.signals) (not (goes_on l))) { alive = with_alive r.alive p false; ended = ended_by p reason (ends_by_error r l p) }
run_after r l (getting_unlinked p q) = run_with r (signals_after_end r.ended p q r.signals) true
run_after r l (linked p q) =
    if is_alive r.alive q then run_with r r.signals true else
    run_with r (signals_with (record { process = p; of_error = true; is_reported = true }) r.signals) (not (is_some l.caught_at))
run_after r l (spawned p parent f args) = record (run_with r r.signals true) { alive = with_alive r.alive p true }
run_after r l e = run_with r r.signals true

-- ---- messages

-- exception_from of a frame that is marked for exceptions
abbrev pub exceptions_by : MarkKind → NodeMark → Tree → List Tree
exceptions_by for_returns m x = []
exceptions_by for_exceptions m x = message_where true (raised m.process m.mfa error x m.depth)

-- where the frame is of this process
abbrev pub exceptions_at : NodeMark → ℕ → Tree → List Tree
exceptions_at m p x = if m.process == p then exceptions_by m.kind m x else []

-- of each frame of the process, from the newest down
abbrev pub exceptions_of : List NodeMark → ℕ → Tree → List Tree
exceptions_of [] p x = []
exceptions_of (m ∷ ms) p x = exceptions_of ms p x ++ exceptions_at m p x

-- where the process has the flag `call`
abbrev pub error_messages : NodeSession → ℕ → Tree → List Tree
error_messages s p x = if flags_at s.session p call_flag then exceptions_of s.marks p x else []

-- what is reported of an exit with this reason, which isn't reported already
abbrev pub exit_messages : (of_error : Bool) → (p : ℕ) → Tree → (m : Option Tree) → List Tree
exit_messages false p x m = option_to_list m
exit_messages true p x m = message_where (is_some m) (exited p (with_calls x))

-- of a link to a process that isn't alive
abbrev pub noproc_messages : NodeSession → ℕ → List Tree
noproc_messages s p = error_messages s p (word "noproc") ++ message_where (flags_at s.session p procs_flag) (exited p (with_calls (word "noproc")))

-- what a session of a node reports of an event, where one with its flags and settings reports m, and is in this state afterwards
abbrev pub run_messages : NodeRun → Outlook → NodeSession → (after : Session) → Event → (m : Option Tree) → List Tree
run_messages r l s t (exited p x) m =
    if is_reported_exit (signal_of r.signals p) then [] else
    (if is_some l.error then error_messages s p x else []) ++ exit_messages (ends_by_error r l p) p x m
run_messages r l s t (getting_unlinked p q) m = if has_ended r.ended q then [] else option_to_list m
run_messages r l s t (linked p q) m = option_to_list m ++ (if is_alive r.alive q then [] else noproc_messages s p)
run_messages r l s t e m = node_messages s t e m

-- ---- what isn't determined

-- after this a session's messages and flags aren't
abbrev pub is_open_difference : Difference → Bool
is_open_difference node_ends = true
is_open_difference reads_freed = true
is_open_difference ignores_silent = true
is_open_difference evaluates_from_right = true
is_open_difference faults_in_logic = true
is_open_difference reads_no_list = true
is_open_difference x = false

abbrev pub opens : Session → Event → Bool
opens s e = list_any is_open_difference (evaluation_differences s e)

-- the message of a send, link or unlink of what is no pid
abbrev pub hides : Session → Outlook → Event → Bool
hides s l (exited p x) = is_attempt_by s p l.error
hides s l e = false

-- ---- lines

-- a line that a node doesn't have, one that it has, or that this isn't determined
pub data NodeLine : Type 0 where
  lacks : List ℕ → NodeLine
  adds : List ℕ → NodeLine
  is_open : NodeLine

-- what is between the lines of a session and those of a node, after those that both have
abbrev pub lines_between : (here there : List (List ℕ)) → List NodeLine
lines_between [] ns = map adds ns
lines_between (m ∷ ms) [] = map lacks (m ∷ ms)
lines_between (m ∷ ms) (n ∷ ns) = if bytes_eq m n then lines_between ms ns else map lacks (m ∷ ms) ++ map adds (n ∷ ns)

-- where it was determined before, and is now or isn't
abbrev pub lines_by_openness : (was is : Bool) → (here there : List (List ℕ)) → List NodeLine
lines_by_openness false is ms ns = []
lines_by_openness true false ms ns = is_open ∷ []
lines_by_openness true true ms ns = lines_between ms ns
