-- What one session makes of an event: inheritance, whether it is evaluated, the effects, at most one message, marks (trace:process/4, function/4, send/3, recv/3).
-- Depends on the session's state and settings, on the outcome of specifications and on messages.
-- It knows no other session, and nothing of how the events came about.
use Rattle.std.specs.Prelude.{ℕ, ◌==◌, Bool, true, false, not, if◌then◌else◌, List, [], ◌∷◌, filter, Option, Some, None}
use Rattle.std.specs.Option.{is_some}
use Rattle.def_term.specs.Tree.{Tree, pid}
use Rattle.def_term.specs.Names.{Mfa, word}
use Rattle.def_term.specs.Alive.{with_alive}
use Rattle.def_spec.specs.Flags.{Flag, Flags, no_flags, send_flag, receive_flag, call_flag, procs_flag, silent_flag, arity_flag, after_spawn, after_link}
use Rattle.def_spec.specs.Expressions.{Context, Effect, traces_return, traces_exception, flags_after}
use Rattle.def_spec.specs.Outcome.{Outcome, no_match, matched, outcome_of}
use Rattle.def_node.specs.Event.{Event, sent, received, called, returned, raised, spawning, spawned, exited, linked, unlinked, getting_linked, getting_unlinked}
use Rattle.def_session.specs.Settings.{Setting, off, plain, by, setting_for}
use Rattle.def_session.specs.State.{Phase, absent, live, destroyed, MarkKind, for_returns, for_exceptions, Session, flags_at, with_flags, marks_at, with_marks, mark_of, alive_after}
use Rattle.def_session.specs.Messages.{elements_of, process_of, last_message, message_by}

-- ---- inheritance

-- the flags of both afterwards
abbrev pub with_both : Session → (giver taker : ℕ) → Flags × Flags → Session
with_both s giver taker pair = with_flags (with_flags s giver pair.0) taker pair.1

-- before the spawned event the child gets the flags for new processes and those that it inherits; before the getting_linked event the partner gets those that it inherits
abbrev pub inherit : Session → Event → Session
inherit s (spawned child parent f args) = with_both (record s { alive = with_alive s.alive child true }) parent child (after_spawn (flags_at s parent) s.new_process_flags)
inherit s (getting_linked p linker) = with_both s linker p (after_link (flags_at s linker) (flags_at s p))
inherit s _ = s

-- ---- what is evaluated

-- the effects of an outcome; none where there is no match
abbrev pub effects_of_outcome : Outcome → Option (List Effect)
effects_of_outcome no_match = None
effects_of_outcome (matched es) = Some es

-- without a specification there are no effects; no clause, no message
abbrev pub evaluated_by : Setting → Context → Option (List Effect)
evaluated_by off c = None
evaluated_by plain c = Some []
evaluated_by (by s) c = effects_of_outcome (outcome_of s c)

-- what a specification is evaluated in: the flags are those after inheritance
abbrev pub context : Session → ℕ → List Tree → Option Mfa → Context
context s self_pid ts caller = record { matched_list = ts; self_pid = self_pid; caller_mfa = caller; alive = s.alive; flags = s.flags }

-- the frame of this depth has a mark of either kind
abbrev pub is_marked : Session → ℕ → ℕ → Bool
is_marked s p depth = is_some (mark_of s p depth)

-- a mark for exceptions
abbrev pub is_for_exceptions : Option MarkKind → Bool
is_for_exceptions (Some for_exceptions) = true
is_for_exceptions _ = false

-- the frame of this depth is marked for exceptions
abbrev pub is_marked_for_exceptions : Session → ℕ → ℕ → Bool
is_marked_for_exceptions s p depth = is_for_exceptions (mark_of s p depth)

-- evaluated where the process has the flag
abbrev pub where_set : Session → ℕ → Flag → Option (List Effect) → Option (List Effect)
where_set s p f r = if flags_at s p f then r else None

-- a return or an exception, where the mark of its frame is for that, and the process has the flag `call` at that moment (own)
abbrev pub where_marked : Session → ℕ → Bool → Option (List Effect)
where_marked s p m = if m then where_set s p call_flag (Some []) else None

-- the effects, or none where the event isn't evaluated. The list that is matched: a call's arguments, [Receiver,Msg] for a send,
-- [Node,Sender,Msg] for a receive
abbrev pub effects_of : Session → Event → Option (List Effect)
effects_of s (sent p t to alive) = where_set s p send_flag (evaluated_by s.sending (context s p (pid to ∷ t ∷ []) None))
effects_of s (received p sender t) = where_set s p receive_flag (evaluated_by s.receiving (context s p (word "nonode@nohost" ∷ pid sender ∷ t ∷ []) None))
effects_of s (called p c) = where_set s p call_flag (evaluated_by (setting_for s.functions c) (context s p c.args c.caller))
effects_of s (returned p f t depth) = where_marked s p (is_marked s p depth)
effects_of s (raised p f c t depth) = where_marked s p (is_marked_for_exceptions s p depth)
effects_of s (spawning p child f args) = where_set s p procs_flag (Some [])
effects_of s (spawned p parent f args) = where_set s p procs_flag (Some [])
effects_of s (exited p r) = where_set s p procs_flag (Some [])
effects_of s (linked p q) = where_set s p procs_flag (Some [])
effects_of s (unlinked p q) = where_set s p procs_flag (Some [])
effects_of s (getting_linked p q) = where_set s p procs_flag (Some [])
effects_of s (getting_unlinked p q) = where_set s p procs_flag (Some [])

-- ---- effects

-- with the flags that are there after these effects in the process
abbrev pub all_affected : ℕ → Session → List Effect → Session
all_affected p s es = record s { flags = flags_after p s.flags es }

-- return_trace marks for returns, where no mark is asked for yet
abbrev pub or_for_returns : Option MarkKind → Option MarkKind
or_for_returns None = Some for_returns
or_for_returns (Some k) = Some k

-- the mark that effects ask for: exception_trace one for exceptions, whatever other effects there are, return_trace alone one for returns
abbrev pub mark_asked : List Effect → Option MarkKind
mark_asked [] = None
mark_asked (traces_return ∷ es) = or_for_returns (mark_asked es)
mark_asked (traces_exception ∷ es) = Some for_exceptions
mark_asked (_ ∷ es) = mark_asked es

-- ---- the message

-- `silent` inhibits call, return_from and exception_from messages alone, the latter two where it is set as the frame is left (own)
abbrev pub is_silenced : Session → Event → Bool
is_silenced s (called p c) = flags_at s p silent_flag
is_silenced s (returned p f t depth) = flags_at s p silent_flag
is_silenced s (raised p f c t depth) = flags_at s p silent_flag
is_silenced s _ = false

-- decided after the effects; `silent` and `arity` are read after them too (own)
abbrev pub message_after : Session → Event → List Effect → Option Tree
message_after s e es = if is_silenced s e then None else message_by (last_message es) (elements_of (flags_at s (process_of e) arity_flag) e)

-- ---- marks, and the end of a process

-- the frame of this depth gets the mark that is asked for, if one is
abbrev pub mark_frame : Session → ℕ → ℕ → Option MarkKind → Session
mark_frame s p depth None = s
mark_frame s p depth (Some k) = with_marks s p (record { depth = depth; kind = k } ∷ marks_at s p)

-- and loses it
abbrev pub unmark_frame : Session → ℕ → ℕ → Session
unmark_frame s p depth = with_marks s p (filter (λ m. not (m.depth == depth)) (marks_at s p))

-- a call marks its frame, a return or an exception that leaves it removes the mark; after an exit the process's flags and marks are gone
abbrev pub finish : Session → Event → List Effect → Session
finish s (called p c) es = mark_frame s p c.depth (mark_asked es)
finish s (returned p f t depth) es = unmark_frame s p depth
finish s (raised p f c t depth) es = unmark_frame s p depth
finish s (exited p r) es = with_marks (with_flags (record s { alive = with_alive s.alive p false }) p no_flags) p []
finish s _ es = s

-- ---- one event

-- the session afterwards, and its message
abbrev pub EventResult : Type 0
EventResult = Session × Option Tree

-- the effects, then the message, then marks
abbrev pub reported_by_effects : Session → Event → List Effect → EventResult
reported_by_effects s e es = let t : Session = all_affected (process_of e) s es in (finish t e es, message_after t e es)

-- without a message marks and flags still end with their frame and process
abbrev pub reported_for : Session → Event → Option (List Effect) → EventResult
reported_for s e None = (finish s e [], None)
reported_for s e (Some es) = reported_by_effects s e es

-- absent or destroyed, an event changes the living pids alone and gives no message
abbrev pub reported_in : Phase → Session → Event → EventResult
reported_in absent s e = (record s { alive = alive_after s.alive e }, None)
reported_in destroyed s e = (record s { alive = alive_after s.alive e }, None)
reported_in live s e = let t : Session = inherit s e in reported_for t e (effects_of t e)

-- one event
abbrev pub event_reported : Session → Event → EventResult
event_reported s e = reported_in s.phase s e
