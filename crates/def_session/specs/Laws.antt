-- What is promised of the definitions of a session (trace:session_create/3, session_destroy/1, process/4, function/4, send/3, recv/3).
-- Depends on all definitions of a session.
use Rattle.std.specs.Prelude.{◌≡◌, ◌≢◌, ◌≤◌, ◌<◌, ◌-◌, ℕ, Bool, true, false, not, ◌&&◌, ◌||◌, ◌⊎◌, if◌then◌else◌, List, [], ◌∷◌, ◌++◌, length, All, Option, Some, None, Ok, pos}
use Rattle.def_term.specs.Tree.{Tree, int, atom, pid, tuple, list, of_elements}
use Rattle.def_term.specs.Alive.{FIRST_PID, with_alive}
use Rattle.def_term.specs.Names.{Name, Mfa, word, mfa_term}
use Rattle.def_script.specs.Program.{Class, Command, create, destroy, set_function}
use Rattle.def_script.specs.Exports.{Exports}
use Rattle.def_script.specs.Rules.{is_creation}
use Rattle.def_node.specs.Event.{Event, Call, sent, received, called, returned, raised, spawning, spawned, exited, linked, unlinked, getting_linked, getting_unlinked}
use Rattle.def_spec.specs.Flags.{Flag, no_flags, flags_in, send_flag, receive_flag, call_flag, procs_flag, silent_flag, arity_flag}
use Rattle.def_spec.specs.Expressions.{for_calls, Effect, traces_return, traces_exception, context_after}
use Rattle.def_spec.specs.Reading.{SpecFault}
use Rattle.def_session.specs.Settings.{FunctionPattern, Setting, off, FunctionSetting, has_among, setting_for, setting_of, trace_pattern_of, options_of}
use Rattle.def_session.specs.State.{absent, live, destroyed, MarkKind, for_returns, for_exceptions, Session, flags_at, mark_of, alive_after, new_session}
use Rattle.def_session.specs.Messages.{class_term, elements_of, process_of, last_message}
use Rattle.def_session.specs.Session.{inherit, context, effects_of, all_affected, mark_asked, event_reported}
use Rattle.def_session.specs.Commands.{matching_count, number_term, fault_term, command_done}

-- ---- settings

-- no function command of these has the called function among its own
abbrev pub AreOfOthers : List FunctionSetting → Call → Type 0
AreOfOthers ks c = All (λ k. has_among k c.mfa c.exported ≡ false) ks

-- the newest command that has the function among its own decides, whichever kind it is: an older one never shows through
abbrev pub NewestSettingWins : Type 0
NewestSettingWins =
    (newer older : List FunctionSetting) (k : FunctionSetting) (c : Call) → AreOfOthers newer c → has_among k c.mfa c.exported ≡ true →
    setting_for (newer ++ k ∷ older) c ≡ (if k.local || c.named then k.setting else off)

-- where it is `false`, there is no setting, whatever the older ones are
abbrev pub FalseRemoves : Type 0
FalseRemoves =
    (newer older : List FunctionSetting) (k : FunctionSetting) (c : Call) → AreOfOthers newer c → has_among k c.mfa c.exported ≡ true → k.setting ≡ off →
    setting_for (newer ++ k ∷ older) c ≡ off

-- where no command has it among its own, there is none either
abbrev pub NoSetting : Type 0
NoSetting = (ks : List FunctionSetting) (c : Call) → AreOfOthers ks c → setting_for ks c ≡ off

-- a function command that is accepted is the newest, changes nothing else, and replies the number of matching functions
abbrev pub FunctionCommandIsNewest : Type 0
FunctionCommandIsNewest =
    (o : Exports) (s : Session) (name : Name) (mfa spec options : Tree) (covered : FunctionPattern) (local : Bool) (setting : Setting) →
    s.phase ≡ live → trace_pattern_of mfa ≡ Some covered → options_of options ≡ Some local → setting_of for_calls spec ≡ Ok setting →
    command_done o s (set_function name mfa spec options)
    ≡ (
      record s { functions = record { covered = covered; setting = setting; local = local } ∷ s.functions },
      number_term (matching_count o (record { covered = covered; setting = setting; local = local })),
    )

-- a command that is answered `badarg` or `{unsupported,Name}` changes nothing
abbrev pub RefusedChangesNothing : Type 0
RefusedChangesNothing = (o : Exports) (s : Session) (c : Command) (e : SpecFault) → (command_done o s c).1 ≡ fault_term e → (command_done o s c).0 ≡ s

-- a command that adds a function setting, or ends all settings
abbrev pub is_about_functions : Command → Bool
is_about_functions (set_function name mfa spec options) = true
is_about_functions (destroy name) = true
is_about_functions _ = false

-- any other leaves the accepted function commands as they are
abbrev pub OtherCommandsKeepSettings : Type 0
OtherCommandsKeepSettings = (o : Exports) (s : Session) (c : Command) → is_about_functions c ≡ false → (command_done o s c).0.functions ≡ s.functions

-- and so does every event
abbrev pub EventsKeepSettings : Type 0
EventsKeepSettings = (s : Session) (e : Event) → (event_reported s e).0.functions ≡ s.functions

-- ---- messages

-- the flag that a process needs for the message of an event
abbrev pub needed_for : Event → Flag
needed_for (sent p t to alive) = send_flag
needed_for (received p sender t) = receive_flag
needed_for (called p c) = call_flag
needed_for (returned p f t depth) = call_flag
needed_for (raised p f c t depth) = call_flag
needed_for (spawning p child f args) = procs_flag
needed_for (spawned p parent f args) = procs_flag
needed_for (exited p r) = procs_flag
needed_for (linked p q) = procs_flag
needed_for (unlinked p q) = procs_flag
needed_for (getting_linked p q) = procs_flag
needed_for (getting_unlinked p q) = procs_flag

-- the message of an event, short or not: plain where the last message that the effects give is `true`, or none is given; with that term as one more element at its end where it is neither `true` nor `false`; and none where it is `false`
pub data IsMessageOf (e : Event) (short : Bool) (last : Option Tree) (m : Tree) : Type 0 where
  plainly : (last ≡ None) ⊎ (last ≡ Some (word "true")) → m ≡ tuple (of_elements (elements_of short e)) → IsMessageOf e short last m
  with_one_more : (t : Tree) → last ≡ Some t → t ≢ word "true" → t ≢ word "false" → m ≡ tuple (of_elements (elements_of short e ++ t ∷ [])) → IsMessageOf e short last m

-- a session that reports m of an event is live, and the process has the flag that the event needs. The message is short where the process has the flag `arity` after inheritance and the effects
pub record IsReportedOf (s : Session) (e : Event) (m : Tree) : Type 0 where
  pub lives : s.phase ≡ live
  pub flagged : flags_at (inherit s e) (process_of e) (needed_for e) ≡ true
  pub effects : List Effect
  pub have : effects_of (inherit s e) e ≡ Some effects
  pub message : IsMessageOf e (flags_at (all_affected (process_of e) (inherit s e) effects) (process_of e) arity_flag) (last_message effects) m

-- a message is reported so, and is that of its event
abbrev pub MessageIsOfItsEvent : Type 0
MessageIsOfItsEvent = (s : Session) (e : Event) (m : Tree) → (event_reported s e).1 ≡ Some m → IsReportedOf s e m

-- the flags that `trace` reads after some effects are those that the session has once they are done
abbrev pub TraceReadsTheSession : Type 0
TraceReadsTheSession =
    (s : Session) (self_pid : ℕ) (ts : List Tree) (caller : Option Mfa) (es : List Effect) (p : ℕ) →
    flags_in (context_after (context s self_pid ts caller) es).flags p ≡ flags_at (all_affected self_pid s es) p

-- the message of a call ends with its function
abbrev pub call_ending_with : ℕ → Tree → List Tree
call_ending_with p f = word "trace" ∷ pid p ∷ word "call" ∷ f ∷ []

-- which is {M,F,Arity} where it is short
abbrev pub ShortCallHasItsArity : Type 0
ShortCallHasItsArity =
    (p : ℕ) (c : Call) →
    elements_of true (called p c) ≡ call_ending_with p (tuple (of_elements (atom c.mfa.module_name ∷ atom c.mfa.function_name ∷ int (pos c.mfa.arity) ∷ [])))

-- and else {M,F,Args}
abbrev pub PlainCallHasItsArguments : Type 0
PlainCallHasItsArguments =
    (p : ℕ) (c : Call) →
    elements_of false (called p c) ≡ call_ending_with p (tuple (of_elements (atom c.mfa.module_name ∷ atom c.mfa.function_name ∷ list (of_elements c.args) ∷ [])))

-- {trace,P,return_from,{M,F,Arity},Value}
abbrev pub return_message : ℕ → Mfa → Tree → Tree
return_message p f t = tuple (of_elements (word "trace" ∷ pid p ∷ word "return_from" ∷ mfa_term f ∷ t ∷ []))

-- {trace,P,exception_from,{M,F,Arity},{Class,Value}}
abbrev pub exception_message : ℕ → Mfa → Class → Tree → Tree
exception_message p f c t = tuple (of_elements (word "trace" ∷ pid p ∷ word "exception_from" ∷ mfa_term f ∷ tuple (of_elements (class_term c ∷ t ∷ [])) ∷ []))

-- ---- after destruction

-- an accepted destruction takes all settings, flags and marks away
abbrev pub DestructionTakesAll : Type 0
DestructionTakesAll = (o : Exports) (s : Session) (name : Name) → s.phase ≡ live → command_done o s (destroy name) ≡ (new_session destroyed s.alive, word "true")

-- an event gives no message and changes the living pids alone
abbrev pub EventAfterDestruction : Type 0
EventAfterDestruction = (s : Session) (e : Event) → s.phase ≡ destroyed → event_reported s e ≡ (record s { alive = alive_after s.alive e }, None)

-- a command changes nothing
abbrev pub CommandAfterDestruction : Type 0
CommandAfterDestruction = (o : Exports) (s : Session) (c : Command) → s.phase ≡ destroyed → (command_done o s c).0 ≡ s

-- `false` where already destroyed
abbrev pub DestroyedAgain : Type 0
DestroyedAgain = (o : Exports) (s : Session) (name : Name) → s.phase ≡ destroyed → (command_done o s (destroy name)).1 ≡ word "false"

-- ---- marks

-- exception_trace asks for a mark for exceptions, whatever effects come before and after it
abbrev pub ExceptionTraceMarks : Type 0
ExceptionTraceMarks = (before behind : List Effect) → mark_asked (before ++ traces_exception ∷ behind) ≡ Some for_exceptions

-- this effect isn't among them
abbrev pub Lacks : Effect → List Effect → Type 0
Lacks e es = All (λ x. x ≢ e) es

-- return_trace without it asks for a mark for returns
abbrev pub ReturnTraceMarks : Type 0
ReturnTraceMarks =
    (before behind : List Effect) → Lacks traces_exception before → Lacks traces_exception behind →
    mark_asked (before ++ traces_return ∷ behind) ≡ Some for_returns

-- and effects without either ask for no mark
abbrev pub OtherEffectsMarkNothing : Type 0
OtherEffectsMarkNothing = (es : List Effect) → Lacks traces_return es → Lacks traces_exception es → mark_asked es ≡ None

-- a call gets the mark that its effects ask for, in a session that has a place for the process
abbrev pub CallIsMarked : Type 0
CallIsMarked =
    (s : Session) (p : ℕ) (c : Call) (es : List Effect) (k : MarkKind) → s.phase ≡ live → p - FIRST_PID < length s.marks →
    effects_of s (called p c) ≡ Some es → mark_asked es ≡ Some k → mark_of (event_reported s (called p c)).0 p c.depth ≡ Some k

-- an exception that leaves a frame which is marked for exceptions is reported exactly where `call` is set and `silent` is clear
abbrev pub ExceptionIsTold : Type 0
ExceptionIsTold =
    (s : Session) (p : ℕ) (f : Mfa) (c : Class) (t : Tree) (depth : ℕ) → s.phase ≡ live → mark_of s p depth ≡ Some for_exceptions →
    (event_reported s (raised p f c t depth)).1 ≡ (if flags_at s p call_flag && not (flags_at s p silent_flag) then Some (exception_message p f c t) else None)

-- and no other is: neither one that leaves a frame which is marked for returns, nor one that leaves a frame without a mark
abbrev pub NoOtherException : Type 0
NoOtherException =
    (s : Session) (p : ℕ) (f : Mfa) (c : Class) (t : Tree) (depth : ℕ) → mark_of s p depth ≢ Some for_exceptions →
    (event_reported s (raised p f c t depth)).1 ≡ None

-- a return of a frame with a mark of either kind is reported exactly where `call` is set and `silent` is clear
abbrev pub ReturnIsTold : Type 0
ReturnIsTold =
    (s : Session) (p : ℕ) (f : Mfa) (t : Tree) (depth : ℕ) (k : MarkKind) → s.phase ≡ live → mark_of s p depth ≡ Some k →
    (event_reported s (returned p f t depth)).1 ≡ (if flags_at s p call_flag && not (flags_at s p silent_flag) then Some (return_message p f t) else None)

-- and no other is
abbrev pub NoOtherReturn : Type 0
NoOtherReturn = (s : Session) (p : ℕ) (f : Mfa) (t : Tree) (depth : ℕ) → mark_of s p depth ≡ None → (event_reported s (returned p f t depth)).1 ≡ None

-- ---- the end of frames and processes

-- after a return its frame has no mark
abbrev pub ReturnEndsTheMark : Type 0
ReturnEndsTheMark = (s : Session) (p : ℕ) (f : Mfa) (t : Tree) (depth : ℕ) → s.phase ≡ live → mark_of (event_reported s (returned p f t depth)).0 p depth ≡ None

-- and no other frame of the process loses its own
abbrev pub ReturnEndsNoOtherMark : Type 0
ReturnEndsNoOtherMark =
    (s : Session) (p : ℕ) (f : Mfa) (t : Tree) (depth other : ℕ) → other ≢ depth →
    mark_of (event_reported s (returned p f t depth)).0 p other ≡ mark_of s p other

-- an exception that leaves a frame takes the mark of that frame too, whether it is reported or not
abbrev pub RaiseEndsTheMark : Type 0
RaiseEndsTheMark =
    (s : Session) (p : ℕ) (f : Mfa) (c : Class) (t : Tree) (depth : ℕ) → s.phase ≡ live → mark_of (event_reported s (raised p f c t depth)).0 p depth ≡ None

-- and no other
abbrev pub RaiseEndsNoOtherMark : Type 0
RaiseEndsNoOtherMark =
    (s : Session) (p : ℕ) (f : Mfa) (c : Class) (t : Tree) (depth other : ℕ) → other ≢ depth →
    mark_of (event_reported s (raised p f c t depth)).0 p other ≡ mark_of s p other

-- after a process's exit its flags are gone
abbrev pub ExitEndsTheFlags : Type 0
ExitEndsTheFlags = (s : Session) (p : ℕ) (r : Tree) → s.phase ≡ live → flags_at (event_reported s (exited p r)).0 p ≡ no_flags

-- and its marks, at every depth
abbrev pub ExitEndsTheMarks : Type 0
ExitEndsTheMarks = (s : Session) (p : ℕ) (r : Tree) (depth : ℕ) → s.phase ≡ live → mark_of (event_reported s (exited p r)).0 p depth ≡ None

-- no event, whichever it is, marks a frame of a process that it isn't about, or takes such a mark away
abbrev pub MarksOfOthersStay : Type 0
MarksOfOthersStay =
    (s : Session) (e : Event) (q depth : ℕ) → FIRST_PID ≤ process_of e → FIRST_PID ≤ q → process_of e ≢ q →
    mark_of (event_reported s e).0 q depth ≡ mark_of s q depth

-- after its exit a process is no longer alive
abbrev pub ExitEndsTheLife : Type 0
ExitEndsTheLife = (s : Session) (p : ℕ) (r : Tree) → s.phase ≡ live → (event_reported s (exited p r)).0.alive ≡ with_alive s.alive p false

-- ---- before creation, and which processes are alive

-- a creation changes the phase of an absent session alone
abbrev pub CreationMakesLive : Type 0
CreationMakesLive =
    (o : Exports) (s : Session) (name tracer : Name) → s.phase ≡ absent →
    command_done o s (create name tracer) ≡ (record s { phase = live }, tuple (of_elements (word "session" ∷ atom name ∷ [])))

-- any other command is refused, and changes nothing
abbrev pub CommandBeforeCreation : Type 0
CommandBeforeCreation = (o : Exports) (s : Session) (c : Command) → s.phase ≡ absent → is_creation c ≡ false → command_done o s c ≡ (s, word "badarg")

-- before its creation a session reports nothing, and an event changes only which processes are alive
abbrev pub EventBeforeCreation : Type 0
EventBeforeCreation = (s : Session) (e : Event) → s.phase ≡ absent → event_reported s e ≡ (record s { alive = alive_after s.alive e }, None)

-- in each phase a session knows which processes are alive: those that were spawned, until they exit
abbrev pub LifeGoesByEvents : Type 0
LifeGoesByEvents = (s : Session) (e : Event) → (event_reported s e).0.alive ≡ alive_after s.alive e

-- and no event changes the phase
abbrev pub EventKeepsThePhase : Type 0
EventKeepsThePhase = (s : Session) (e : Event) → (event_reported s e).0.phase ≡ s.phase
