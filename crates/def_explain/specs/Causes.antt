-- Why a session reports nothing of an event (own; trace:process/4, trace:function/4, trace:send/3, trace:recv/3).
-- Depends on what a session makes of an event, and on the reasons of clauses.
use Rattle.std.specs.Prelude.{◌≡◌, Bool, true, false, ◌||◌, if◌then◌else◌, List, [], ◌∷◌, Option, Some, None}
use Rattle.std.specs.Bool.{⊤}
use Rattle.def_term.specs.Tree.{Tree, pid}
use Rattle.def_term.specs.Order.{same}
use Rattle.def_term.specs.Names.{word}
use Rattle.def_spec.specs.Flags.{Flag}
use Rattle.def_spec.specs.Expressions.{Dialect, Context, Effect}
use Rattle.def_spec.specs.Outcome.{Clause}
use Rattle.def_node.specs.Event.{Event, Call, sent, received, called, returned, raised}
use Rattle.def_session.specs.Settings.{FunctionSetting, Setting, off, by, has_among}
use Rattle.def_session.specs.State.{MarkKind, for_returns, for_exceptions, Session, flags_at, mark_of}
use Rattle.def_session.specs.Messages.{process_of, last_message}
use Rattle.def_session.specs.Session.{effects_of, context, is_marked, all_affected, is_silenced}
use Rattle.def_session.specs.Laws.{needed_for}
use Rattle.def_explain.specs.Reasons.{Reason, IsReason, reason_of}

-- the frame of a return or an exception isn't marked, or that of an exception for returns alone; the process doesn't have the flag;
-- no command covers the function, or the newest that does is about calls that name the module; it is `false`, or no clause fires;
-- or the message is silenced, or `false`
pub data Cause : Type 0 where
  no_mark : Cause
  marked_for_returns : Cause
  no_flag : Flag → Cause
  no_setting : Cause
  of_named_calls : Cause
  switched_off : Cause
  no_clause : List Reason → Cause
  silenced : Cause
  message_false : Cause

-- the process of the event has the flag that its message needs
abbrev pub HasFlag : Session → Event → Type 0
HasFlag s e = flags_at s (process_of e) (needed_for e) ≡ true

-- a return is that of a marked frame, and an exception leaves one that is marked for exceptions
abbrev pub IsOfMarked : Session → Event → Type 0
IsOfMarked s (returned p f t depth) = is_marked s p depth ≡ true
IsOfMarked s (raised p f c t depth) = mark_of s p depth ≡ Some for_exceptions
IsOfMarked s e = ⊤

-- each clause has its reason
abbrev pub EachReason : Dialect → List Clause → Context → List Reason → Type 0
EachReason d [] c [] = ⊤
EachReason d [] c (r ∷ rs) = ⊥
EachReason d (k ∷ ks) c [] = ⊥
EachReason d (k ∷ ks) c (r ∷ rs) = IsReason d k c r × EachReason d ks c rs

-- why a setting reports nothing in this context
abbrev pub IsOfSetting : Setting → Context → Cause → Type 0
IsOfSetting off c switched_off = ⊤
IsOfSetting (by s) c (no_clause rs) = EachReason s.dialect s.clauses c rs
IsOfSetting g c cause = ⊥

-- the newest command that has the called function among its own
abbrev pub newest_of : List FunctionSetting → Call → Option FunctionSetting
newest_of [] c = None
newest_of (k ∷ ks) c = if has_among k c.mfa c.exported then Some k else newest_of ks c

-- why the newest command reports nothing of a call, or that none covers its function
abbrev pub IsOfCall : Option FunctionSetting → Call → Context → Cause → Type 0
IsOfCall None call c no_setting = ⊤
IsOfCall None call c cause = ⊥
IsOfCall (Some k) call c of_named_calls = (k.local || call.named) ≡ false
IsOfCall (Some k) call c cause = ((k.local || call.named) ≡ true) × IsOfSetting k.setting c cause

-- why an event isn't evaluated though its process has the flag
abbrev pub IsOfEvent : Session → Event → Cause → Type 0
IsOfEvent s (sent p t to alive) cause = IsOfSetting s.sending (context s p (pid to ∷ t ∷ []) None) cause
IsOfEvent s (received p sender t) cause = IsOfSetting s.receiving (context s p (word "nonode@nohost" ∷ pid sender ∷ t ∷ []) None) cause
IsOfEvent s (called p c) cause = IsOfCall (newest_of s.functions c) c (context s p c.args c.caller) cause
IsOfEvent s e cause = ⊥

-- the return of a frame that isn't marked, or an exception that leaves one
abbrev pub IsOfUnmarked : Session → Event → Type 0
IsOfUnmarked s (returned p f t depth) = is_marked s p depth ≡ false
IsOfUnmarked s (raised p f c t depth) = mark_of s p depth ≡ None
IsOfUnmarked s e = ⊥

-- an exception that leaves a frame that is marked for returns
abbrev pub IsOfReturns : Session → Event → Type 0
IsOfReturns s (raised p f c t depth) = mark_of s p depth ≡ Some for_returns
IsOfReturns s e = ⊥

-- the event is evaluated, with these effects
abbrev pub IsEvaluated : Session → Event → List Effect → Type 0
IsEvaluated s e es = effects_of s e ≡ Some es

-- whether the message is silenced, once the effects are done
abbrev pub is_silent_after : Session → Event → List Effect → Bool
is_silent_after s e es = is_silenced (all_affected (process_of e) s es) e

-- why a session that is there reports nothing of an event, the session as it is once flags were inherited
abbrev pub IsCause : Session → Event → Cause → Type 0
IsCause s e no_mark = IsOfUnmarked s e
IsCause s e marked_for_returns = IsOfReturns s e
IsCause s e (no_flag f) = (f ≡ needed_for e) × IsOfMarked s e × (flags_at s (process_of e) f ≡ false)
IsCause s e silenced = (es : List Effect) × IsEvaluated s e es × (is_silent_after s e es ≡ true)
IsCause s e message_false = (es : List Effect) × IsEvaluated s e es × (is_silent_after s e es ≡ false) × (last_message es ≡ Some (word "false"))
IsCause s e cause = HasFlag s e × IsOfEvent s e cause

-- ---- the same, computed

-- a reason before others, where there is one
abbrev pub reasons_before : Option Reason → List Reason → List Reason
reasons_before None rs = rs
reasons_before (Some r) rs = r ∷ rs

-- the reason of each clause
abbrev pub reasons_of : Dialect → List Clause → Context → List Reason
reasons_of d [] c = []
reasons_of d (k ∷ ks) c = reasons_before (reason_of d k c) (reasons_of d ks c)

-- what a setting makes of a context
abbrev pub cause_of_setting : Setting → Context → Cause
cause_of_setting (by s) c = no_clause (reasons_of s.dialect s.clauses c)
cause_of_setting g c = switched_off

-- what the newest command makes of a call
abbrev pub cause_of_call : Option FunctionSetting → Call → Context → Cause
cause_of_call None call c = no_setting
cause_of_call (Some k) call c = if k.local || call.named then cause_of_setting k.setting c else of_named_calls

-- of an event whose process has the flag, where it isn't evaluated
abbrev pub cause_of_event : Session → Event → Cause
cause_of_event s (sent p t to alive) = cause_of_setting s.sending (context s p (pid to ∷ t ∷ []) None)
cause_of_event s (received p sender t) = cause_of_setting s.receiving (context s p (word "nonode@nohost" ∷ pid sender ∷ t ∷ []) None)
cause_of_event s (called p c) = cause_of_call (newest_of s.functions c) c (context s p c.args c.caller)
cause_of_event s e = no_mark

-- `false` is the message
abbrev pub is_false_message : Option Tree → Bool
is_false_message None = false
is_false_message (Some t) = same t (word "false")

-- of an event with these effects, or with none
abbrev pub cause_by : Session → Event → Option (List Effect) → Option Cause
cause_by s e None = Some (cause_of_event s e)
cause_by s e (Some es) = if is_silent_after s e es then Some silenced else if is_false_message (last_message es) then Some message_false else None

-- of an event whose frame, if it is a return or an exception, is marked for it
abbrev pub cause_where : Session → Event → Option Cause
cause_where s e = if flags_at s (process_of e) (needed_for e) then cause_by s e (effects_of s e) else Some (no_flag (needed_for e))

-- of an exception, by the mark of its frame
abbrev pub cause_by_mark : Session → Event → Option MarkKind → Option Cause
cause_by_mark s e None = Some no_mark
cause_by_mark s e (Some for_returns) = Some marked_for_returns
cause_by_mark s e (Some for_exceptions) = cause_where s e

-- why the session reports nothing of the event; none where it reports of it
abbrev pub cause_of : Session → Event → Option Cause
cause_of s (returned p f t depth) = if is_marked s p depth then cause_where s (returned p f t depth) else Some no_mark
cause_of s (raised p f c t depth) = cause_by_mark s (raised p f c t depth) (mark_of s p depth)
cause_of s e = cause_where s e
