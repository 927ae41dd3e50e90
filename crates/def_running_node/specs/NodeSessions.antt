-- What one trace session of a running node reports (own, as measured on OTP 27.3.4 (erts 15.2.7)). It has flags, settings and effects as a session has them, but for this:
-- a child has the flags of its parent alone, where the parent hands on flags; a call that is silent gets no mark, and a call with a mark has its return or exception reported, whether `silent` is set then or not;
-- a silent process has no message of a send or a receive that a match specification decided; `false` for new processes clears all their flags.
-- Depends on sessions, and on what a node is known to do otherwise as an event is evaluated.
use Rattle.std.specs.Prelude.{ℕ, ◌==◌, Bool, true, false, not, ◌&&◌, if◌then◌else◌, List, [], ◌∷◌, ◌++◌, filter, Option, Some, None, option_to_list}
use Rattle.std.specs.Option.{is_some}
use Rattle.def_term.specs.Tree.{Tree, tuple, of_elements}
use Rattle.def_term.specs.Names.{Mfa}
use Rattle.def_spec.specs.Flags.{Flags, no_flags, call_flag, silent_flag}
use Rattle.def_node.specs.Event.{Event, Call, sent, received, called, returned, raised, spawned, exited}
use Rattle.def_session.specs.Settings.{Setting, off, plain, by}
use Rattle.def_session.specs.State.{MarkKind, Session, flags_at, mark_of}
use Rattle.def_session.specs.Messages.{elements_of}
use Rattle.def_session.specs.Session.{is_for_exceptions, event_reported}
use Rattle.def_explain.specs.Differences.{hands_on}

-- a frame that has a mark: its process, its depth, what the mark is for, and the function that was called
pub record NodeMark : Type 0 where
  pub process : ℕ
  pub depth : ℕ
  pub kind : MarkKind
  pub mfa : Mfa

-- a session of a node: its flags and settings, and its marks, the oldest first
pub record NodeSession : Type 0 where
  pub session : Session
  pub marks : List NodeMark

-- ---- marks

-- the mark is of the frame of this process and depth
abbrev pub is_mark_at : ℕ → ℕ → NodeMark → Bool
is_mark_at p depth m = m.process == p && m.depth == depth

-- what the mark of this frame is for, where it has one
abbrev pub kind_at : List NodeMark → ℕ → ℕ → Option MarkKind
kind_at [] p depth = None
kind_at (m ∷ ms) p depth = if is_mark_at p depth m then Some m.kind else kind_at ms p depth

-- the frame has no mark any more
abbrev pub without_mark : List NodeMark → ℕ → ℕ → List NodeMark
without_mark ms p depth = filter (λ m. not (is_mark_at p depth m)) ms

-- nor has any frame of the process
abbrev pub without_marks : List NodeMark → ℕ → List NodeMark
without_marks ms p = filter (λ m. not (m.process == p)) ms

-- a call gets the mark that is asked for, unless it is silent
abbrev pub with_mark : List NodeMark → ℕ → Call → (silent : Bool) → Option MarkKind → List NodeMark
with_mark ms p c true k = ms
with_mark ms p c false None = ms
with_mark ms p c false (Some k) = ms ++ record { process = p; depth = c.depth; kind = k; mfa = c.mfa } ∷ []

-- the marks after an event, after which the session's flags and settings are these
abbrev pub marks_after : Session → List NodeMark → Event → List NodeMark
marks_after t ms (called p c) = with_mark ms p c (flags_at t p silent_flag) (mark_of t p c.depth)
marks_after t ms (returned p f v depth) = without_mark ms p depth
marks_after t ms (raised p f c v depth) = without_mark ms p depth
marks_after t ms (exited p r) = without_marks ms p
marks_after t ms e = ms

-- ---- inheritance

-- the parent, where the event is of its child's start
abbrev pub parent_of : Event → Option ℕ
parent_of (spawned child parent f args) = Some parent
parent_of e = None

-- where it hands on flags, the child has none of those for new processes
abbrev pub new_flags_given : Session → Option ℕ → Flags
new_flags_given s None = s.new_process_flags
new_flags_given s (Some parent) = if hands_on (flags_at s parent) then no_flags else s.new_process_flags

abbrev pub new_flags_for : Session → Event → Flags
new_flags_for s e = new_flags_given s (parent_of e)

-- with these flags for new processes
abbrev pub with_new_flags : Flags → Session → Session
with_new_flags f s = record s { new_process_flags = f }

-- ---- messages

-- a match specification decides
abbrev pub is_decided : Setting → Bool
is_decided off = false
is_decided plain = false
is_decided (by s) = true

-- the message of an event with all arguments, where there is one
abbrev pub message_where : Bool → Event → List Tree
message_where b e = if b then tuple (of_elements (elements_of false e)) ∷ [] else []

-- the message, unless it is suppressed
abbrev pub message_unless : Bool → Option Tree → List Tree
message_unless b m = if b then [] else option_to_list m

-- what a node reports of an event, where a session in this state reports m, and has these flags afterwards
abbrev pub node_messages : NodeSession → (after : Session) → Event → (m : Option Tree) → List Tree
node_messages s t (sent p x to alive) m = message_unless (is_decided s.session.sending && flags_at t p silent_flag) m
node_messages s t (received p sender x) m = message_unless (is_decided s.session.receiving && flags_at t p silent_flag) m
node_messages s t (returned p f v depth) m = message_where (is_some (kind_at s.marks p depth) && flags_at s.session p call_flag) (returned p f v depth)
node_messages s t (raised p f c v depth) m = message_where (is_for_exceptions (kind_at s.marks p depth) && flags_at s.session p call_flag) (raised p f c v depth)
node_messages s t e m = option_to_list m

-- ---- one event

-- what the session makes of the event, with the flags for new processes that the child has
abbrev pub reported_there : Session → Event → Session × Option Tree
reported_there s e = let r : Session × Option Tree = event_reported (with_new_flags (new_flags_for s e) s) e in (with_new_flags s.new_process_flags r.0, r.1)

-- the session afterwards, and its messages
abbrev pub node_reported : NodeSession → Event → NodeSession × List Tree
node_reported s e =
    let r : Session × Option Tree = reported_there s.session e in
    (record { session = r.0; marks = marks_after r.0 s.marks e }, node_messages s r.0 e r.1)
