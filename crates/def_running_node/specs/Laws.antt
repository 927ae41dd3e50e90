-- What is promised of what the sessions of a running node report, beside those here (own).
-- Depends on the lines between both, on the marks and messages of a session of a node, and on the note and the account of a run.
use Rattle.std.specs.Bool.{⊤}
use Rattle.std.specs.Prelude.{◌≡◌, ◌≢◌, ◌≤◌, ◌↔◌, ◌⊎◌, ℕ, true, false, List, [], ◌∷◌, ◌++◌, map, filter, length, count_by, Option, Some, None, option_to_list, Ok, pos, Bool, ◌||◌, if◌then◌else◌}
use Rattle.std.specs.List.{list_any, AllByRecursion}
use Rattle.std.specs.Str.{bytes_eq}
use Rattle.std.specs.Option.{is_some}
use Rattle.def_term.specs.Tree.{Tree, Trees, int, atom, pid, tuple, list, none, more, triple, of_elements}
use Rattle.def_term.specs.Names.{Name, Mfa, word}
use Rattle.def_term.specs.Alive.{FIRST_PID, is_alive}
use Rattle.def_term.specs.Order.{same}
use Rattle.def_script.specs.Program.{Program, error, Command, set_function, session_of}
use Rattle.def_script.specs.Exports.{Exports}
use Rattle.def_spec.specs.Flags.{Flag, silent_flag, procs_flag, call_flag}
use Rattle.def_spec.specs.Expressions.{for_calls}
use Rattle.def_spec.specs.Reading.{is_wildcard}
use Rattle.def_node.specs.Event.{Event, Call, sent, received, called, returned, raised, spawned, exited, linked, getting_unlinked, unlinked}
use Rattle.def_outlook.specs.Outlook.{Outlook, OwnLink, RuntimeError, links_itself, unlinks_itself}
use Rattle.def_session.specs.State.{MarkKind, for_exceptions, live, Session, flags_at, mark_of, for_returns, alive_after}
use Rattle.def_session.specs.Messages.{process_of}
use Rattle.def_session.specs.Session.{event_reported}
use Rattle.def_session.specs.Settings.{Setting, setting_of}
use Rattle.def_session.specs.Commands.{command_done, number_term}
use Rattle.def_run.specs.Run.{HistoryItem}
use Rattle.def_run.specs.History.{NamedSession, all_after_items, named_sessions, MoveHistory, move_histories}
use Rattle.def_explain.specs.Differences.{hands_on}
use Rattle.def_explain.specs.NodeCommands.{can_differ}
use Rattle.def_running_node.specs.NodeSessions.{NodeMark, NodeSession, is_mark_at, kind_at, marks_after, message_where, reported_there, node_reported}
use Rattle.def_running_node.specs.NodeRuns.{NodeRun, signal_of, has_ended, exceptions_of, run_messages, opens, hides, NodeLine, lacks, adds, is_open, lines_between, Signal, at_move, run_after, is_of_error, is_limit}
use Rattle.def_running_node.specs.NodeComparisons.{SessionPair, Comparison, comparison_at_start, texts, pair_after_in, lines_of_event_in, NamedLine, after_items, lines_of_items, after_moves, lines_of_moves, lines_of_run, reply_texts, pair_after_command, lines_of_command, lines_of_own_link, pair_after_own_link}
use Rattle.def_running_node.specs.NodeNotes.{has_node_line, moves_that_differ, NodeNote, node_note, node_account_text}
use Rattle.def_running_node.specs.NodeReplies.{all_are_this, option_term, node_command}

-- ---- the lines between

-- the first lines of both aren't there and the same
abbrev pub DifferAtFirst : (these those : List (List ℕ)) → Type 0
DifferAtFirst [] those = ⊤
DifferAtFirst (m ∷ ms) [] = ⊤
DifferAtFirst (m ∷ ms) (n ∷ ns) = m ≢ n

-- of a session's lines here and there: after those with which both begin, all that are here alone, and then all that are there alone
pub record AreBetween (here there : List (List ℕ)) (ls : List NodeLine) : Type 0 where
  pub both : List (List ℕ)
  pub here_alone : List (List ℕ)
  pub there_alone : List (List ℕ)
  pub of_here : here ≡ both ++ here_alone
  pub of_there : there ≡ both ++ there_alone
  pub differ : DifferAtFirst here_alone there_alone
  pub in_order : ls ≡ map lacks here_alone ++ map adds there_alone

-- what is computed is the lines between, and there are no others
abbrev pub LinesAreBetween : Type 0
LinesAreBetween = (here there : List (List ℕ)) (ls : List NodeLine) → AreBetween here there ls ↔ (ls ≡ lines_between here there)

-- there is none exactly where both are the same
abbrev pub NoLineWhereSame : Type 0
NoLineWhereSame = (here there : List (List ℕ)) → (lines_between here there ≡ []) ↔ (here ≡ there)

-- what a node has follows from what is here and from the lines between
abbrev pub SameLinesSameNode : Type 0
SameLinesSameNode = (here there other : List (List ℕ)) → lines_between here there ≡ lines_between here other → there ≡ other

-- ---- what isn't determined

-- the messages that a session has of an event here
abbrev pub messages_here : SessionPair → Event → List Tree
messages_here s e = option_to_list (event_reported s.here e).1

-- and on a node, whose processes are these before it
abbrev pub messages_there : NodeRun → Outlook → SessionPair → Event → List Tree
messages_there r l s e = run_messages r l s.there (reported_there s.there.session e).0 e (reported_there s.there.session e).1

-- the session is live, and what it has on a node was determined before the event
pub record WasDetermined (s : SessionPair) : Type 0 where
  pub lives : s.here.phase ≡ live
  pub of_session : s.is_determined ≡ true

-- what it has of the event isn't: the run isn't determined after it, or the session, or the exit has a message before it that isn't known
abbrev pub IsOpening : (after : NodeRun) → Outlook → SessionPair → Event → Type 0
IsOpening q l s e = (q.is_determined ≡ false) ⊎ ((opens s.there.session e ≡ true) ⊎ (hides s.there.session l e ≡ true))

-- the session then has one line of the event
abbrev pub OpeningHasOneLine : Type 0
OpeningHasOneLine =
    (r q : NodeRun) (l : Outlook) (s : SessionPair) (e : Event) → WasDetermined s → IsOpening q l s e →
    lines_of_event_in s.here.phase r q l s e ≡ is_open ∷ []

-- and else the lines between the messages here and those of the node
abbrev pub EventHasLinesBetween : Type 0
EventHasLinesBetween =
    (r q : NodeRun) (l : Outlook) (s : SessionPair) (e : Event) → WasDetermined s → (IsOpening q l s e → ⊥) →
    AreBetween (texts (messages_here s e)) (texts (messages_there r l s e)) (lines_of_event_in s.here.phase r q l s e)

-- after such an event the session isn't determined
abbrev pub OpeningIsNotDetermined : Type 0
OpeningIsNotDetermined =
    (q : NodeRun) (l : Outlook) (s : SessionPair) (e : Event) → s.here.phase ≡ live → IsOpening q l s e → (pair_after_in s.here.phase q l s e).is_determined ≡ false

-- nor is it after a command of its own, such as the one that creates it, in a run that isn't; it then has one line of the command that says so
abbrev pub CommandInOpenRun : Type 0
CommandInOpenRun =
    (o : Exports) (r : NodeRun) (s : SessionPair) (k : Command) → s.name ≡ session_of k → r.is_determined ≡ false → s.is_determined ≡ true →
    ((pair_after_command o r s k).is_determined ≡ false) × (lines_of_command o r s k ≡ is_open ∷ [])

-- and so it is at a link of a process with itself, or an unlink
abbrev pub OwnLinkInOpenRun : Type 0
OwnLinkInOpenRun =
    (r : NodeRun) (s : SessionPair) (p : ℕ) (x : OwnLink) → WasDetermined s → r.is_determined ≡ false →
    ((pair_after_own_link r s (Some x)).is_determined ≡ false) × (lines_of_own_link r s p (Some x) ≡ is_open ∷ [])

-- the session of this name isn't determined
abbrev pub IsNotDetermined : Name → Comparison → Type 0
IsNotDetermined n c = AllByRecursion (λ s. s.name ≡ n → s.is_determined ≡ false) c.sessions

-- none of these lines is of the session of this name
abbrev pub HasNoLineOf : Name → List NamedLine → Type 0
HasNoLineOf n ls = AllByRecursion (λ l. l.0 ≢ n) ls

-- then it isn't after later events and commands of the move
abbrev pub NotDeterminedInMove : Type 0
NotDeterminedInMove = (o : Exports) (l : Outlook) (n : Name) (c : Comparison) (xs : List HistoryItem) → IsNotDetermined n c → IsNotDetermined n (after_items o l c xs)

-- nor after later moves
abbrev pub NotDeterminedInMoves : Type 0
NotDeterminedInMoves = (o : Exports) (n : Name) (c : Comparison) (hs : List MoveHistory) → IsNotDetermined n c → IsNotDetermined n (after_moves o c hs)

-- and it has no line of any later event or command of the move
abbrev pub NoLaterLineInMove : Type 0
NoLaterLineInMove = (o : Exports) (l : Outlook) (n : Name) (c : Comparison) (xs : List HistoryItem) → IsNotDetermined n c → HasNoLineOf n (lines_of_items o l c xs)

-- nor of any later move
abbrev pub NoLaterLineInMoves : Type 0
NoLaterLineInMoves = (o : Exports) (n : Name) (c : Comparison) (hs : List MoveHistory) → IsNotDetermined n c → AllByRecursion (HasNoLineOf n) (lines_of_moves o c hs)

-- the run isn't determined after an error at which the process goes on there: one of a limit, which a node doesn't have, or one that a catch catches
abbrev pub ErrorThatGoesOn : Type 0
ErrorThatGoesOn =
    (r : NodeRun) (l : Outlook) (p : ℕ) (x : Tree) (y : RuntimeError) → l.error ≡ Some y → (is_limit y ≡ true) ⊎ (is_some l.caught_at ≡ true) →
    (run_after r l (exited p x)).is_determined ≡ false

-- then it isn't after later moves
abbrev pub RunIsNotDeterminedAgain : Type 0
RunIsNotDeterminedAgain = (o : Exports) (c : Comparison) (hs : List MoveHistory) → c.run.is_determined ≡ false → (after_moves o c hs).run.is_determined ≡ false

-- and of them a session has at most the line that says so
abbrev pub NoDifferenceInLaterMoves : Type 0
NoDifferenceInLaterMoves =
    (o : Exports) (c : Comparison) (hs : List MoveHistory) → c.run.is_determined ≡ false → AllByRecursion (AllByRecursion (λ l. l.1 ≡ is_open)) (lines_of_moves o c hs)

-- of a command of its own, where the run and the session are determined, a session has the lines between its replies here and there
abbrev pub CommandHasLinesBetween : Type 0
CommandHasLinesBetween =
    (o : Exports) (r : NodeRun) (s : SessionPair) (k : Command) → s.name ≡ session_of k → r.is_determined ≡ true → s.is_determined ≡ true →
    AreBetween (reply_texts (command_done o s.here k).1) (reply_texts (node_command o s.there.session k).1) (lines_of_command o r s k)

-- a function command with an option several times does what it does with the option once, and has the same reply
abbrev pub OptionsCountOnce : Type 0
OptionsCountOnce =
    (o : Exports) (s : Session) (name : Name) (mfa spec : Tree) (local : Bool) (ts : Trees) →
    let t : Tree = word (if local then "local" else "global") in
    all_are_this t ts ≡ true → node_command o s (set_function name mfa spec (list (more t ts))) ≡ node_command o s (set_function name mfa spec (option_term local))

-- one for the arity 256, which no function has, changes nothing in a live session, and replies 0 where its options and its specification are read
abbrev pub NoArityMatchesNone : Type 0
NoArityMatchesNone =
    (o : Exports) (s : Session) (name m f : Name) (spec : Tree) (local : Bool) (setting : Setting) →
    s.phase ≡ live → is_wildcard m ≡ false → is_wildcard f ≡ false → setting_of for_calls spec ≡ Ok setting →
    node_command o s (set_function name (triple (atom m) (atom f) (int (pos 256))) spec (option_term local)) ≡ (s, number_term 0)

-- a command of another session has no line of it, and changes nothing
abbrev pub OtherCommandHasNoLine : Type 0
OtherCommandHasNoLine =
    (o : Exports) (r : NodeRun) (s : SessionPair) (k : Command) → s.name ≢ session_of k →
    (lines_of_command o r s k ≡ []) × (pair_after_command o r s k ≡ s)

-- of a link of a process with itself a node has the message that a session has of such an event, and nothing is here
abbrev pub OwnLinkHasItsLine : Type 0
OwnLinkHasItsLine =
    (r : NodeRun) (s : SessionPair) (p : ℕ) → WasDetermined s → r.is_determined ≡ true →
    lines_of_own_link r s p (Some links_itself) ≡ map adds (texts (option_to_list (event_reported s.there.session (linked p p)).1))

-- and of an unlink from itself
abbrev pub OwnUnlinkHasItsLine : Type 0
OwnUnlinkHasItsLine =
    (r : NodeRun) (s : SessionPair) (p : ℕ) → WasDetermined s → r.is_determined ≡ true →
    lines_of_own_link r s p (Some unlinks_itself) ≡ map adds (texts (option_to_list (event_reported s.there.session (unlinked p p)).1))

-- ---- exit signals

-- the event is the exit of this process
abbrev pub IsExitOf : ℕ → Event → Type 0
IsExitOf p (exited q x) = q ≡ p
IsExitOf p e = ⊥

-- the processes of the run that are alive are those that were started, until they exit
abbrev pub AliveGoesByEvents : Type 0
AliveGoesByEvents = (r : NodeRun) (l : Outlook) (e : Event) → (run_after r l e).alive ≡ alive_after r.alive e

-- an exit with another reason than `normal` gives a process that loses its link by it a signal, if it has none
abbrev pub AbnormalExitGivesSignal : Type 0
AbnormalExitGivesSignal =
    (r : NodeRun) (l k : Outlook) (p q : ℕ) (x : Tree) → same x (word "normal") ≡ false → signal_of r.signals q ≡ None →
    signal_of (run_after (run_after r l (exited p x)) k (getting_unlinked q p)).signals q
    ≡ Some (record { process = q; of_error = is_some l.error || is_of_error (signal_of r.signals p); is_reported = false })

-- and one with `normal` none
abbrev pub NormalExitGivesNone : Type 0
NormalExitGivesNone =
    (r : NodeRun) (l k : Outlook) (p q : ℕ) (x : Tree) → same x (word "normal") ≡ true → signal_of r.signals q ≡ None →
    signal_of (run_after (run_after r l (exited p x)) k (getting_unlinked q p)).signals q ≡ None

-- a link to a process that isn't alive gives one too, of an error, whose exit is reported at the link
abbrev pub NoprocGivesSignal : Type 0
NoprocGivesSignal =
    (r : NodeRun) (l : Outlook) (p q : ℕ) → is_alive r.alive q ≡ false → signal_of r.signals p ≡ None →
    signal_of (run_after r l (linked p q)).signals p ≡ Some (record { process = p; of_error = true; is_reported = true })

-- the first signal of a process counts until its exit
abbrev pub FirstSignalCounts : Type 0
FirstSignalCounts =
    (r : NodeRun) (l : Outlook) (e : Event) (p : ℕ) (g : Signal) → (IsExitOf p e → ⊥) → signal_of r.signals p ≡ Some g →
    signal_of (run_after r l e).signals p ≡ Some g

-- and after its exit it has none
abbrev pub NoSignalAfterExit : Type 0
NoSignalAfterExit = (r : NodeRun) (l : Outlook) (p : ℕ) (x : Tree) → signal_of (run_after r l (exited p x)).signals p ≡ None

-- while a process has one, a move of a process that has none isn't determined
abbrev pub OtherMoveIsNotDetermined : Type 0
OtherMoveIsNotDetermined =
    (r : NodeRun) (p pick : ℕ) (g : Signal) → signal_of r.signals p ≡ Some g → signal_of r.signals pick ≡ None → (at_move r pick).is_determined ≡ false

-- any other move leaves the run as it is
abbrev pub MoveWithSignalChangesNothing : Type 0
MoveWithSignalChangesNothing = (r : NodeRun) (pick : ℕ) → (r.signals ≡ []) ⊎ ((g : Signal) × (signal_of r.signals pick ≡ Some g)) → at_move r pick ≡ r

-- ---- exits

-- {trace,P,exit,{Reason,[]}}: the reason of an error has the list of calls, which is empty
abbrev pub exit_message_with_calls : (p : ℕ) → (reason : Tree) → Tree
exit_message_with_calls p x = tuple (of_elements (word "trace" ∷ pid p ∷ word "exit" ∷ tuple (of_elements (x ∷ list none ∷ [])) ∷ []))

-- the exceptions of the frames of a process that has `call`, at an error with this reason
abbrev pub exceptions_there : NodeSession → (p : ℕ) → (reason : Tree) → List Tree
exceptions_there s p x = if flags_at s.session p call_flag then exceptions_of s.marks p x else []

-- an exit by an error of the step has that reason, after the exceptions of the frames that it leaves
abbrev pub ErrorExitHasCalls : Type 0
ErrorExitHasCalls =
    (r : NodeRun) (l : Outlook) (s : NodeSession) (t : Session) (p : ℕ) (x m : Tree) (y : RuntimeError) → l.error ≡ Some y → signal_of r.signals p ≡ None →
    run_messages r l s t (exited p x) (Some m) ≡ exceptions_there s p x ++ exit_message_with_calls p x ∷ []

-- and so has an exit by a signal of an error
abbrev pub SignalExitHasCalls : Type 0
SignalExitHasCalls =
    (r : NodeRun) (l : Outlook) (s : NodeSession) (t : Session) (p : ℕ) (x m : Tree) (g : Signal) → l.error ≡ None →
    signal_of r.signals p ≡ Some g → g.of_error ≡ true → g.is_reported ≡ false → run_messages r l s t (exited p x) (Some m) ≡ exit_message_with_calls p x ∷ []

-- one that was reported at a link has no message again
abbrev pub ReportedExitHasNoMessage : Type 0
ReportedExitHasNoMessage =
    (r : NodeRun) (l : Outlook) (s : NodeSession) (t : Session) (p : ℕ) (x : Tree) (m : Option Tree) (g : Signal) → signal_of r.signals p ≡ Some g → g.is_reported ≡ true →
    run_messages r l s t (exited p x) m ≡ []

-- a link to a process that isn't alive has the exceptions and the exit of the error after its own message
abbrev pub NoprocIsReported : Type 0
NoprocIsReported =
    (r : NodeRun) (l : Outlook) (s : NodeSession) (t : Session) (p q : ℕ) (m : Option Tree) → is_alive r.alive q ≡ false → flags_at s.session p procs_flag ≡ true →
    run_messages r l s t (linked p q) m ≡ option_to_list m ++ (exceptions_there s p (word "noproc") ++ exit_message_with_calls p (word "noproc") ∷ [])

-- a link that is lost by an exit has no message, since its process has ended too
abbrev pub LostLinkHasNoMessage : Type 0
LostLinkHasNoMessage =
    (r : NodeRun) (l : Outlook) (s : NodeSession) (t : Session) (p q : ℕ) (m : Option Tree) (of_error : Bool) → r.ended ≡ Some (q, of_error) →
    run_messages r l s t (getting_unlinked p q) m ≡ []

-- ---- marks

-- the event is a call of this frame
abbrev pub CallsFrame : Event → (p depth : ℕ) → Type 0
CallsFrame (called q c) p depth = (q ≡ p) × (c.depth ≡ depth)
CallsFrame e p depth = ⊥

-- the event ends this frame: a return from it, an exception that leaves it, or the exit of its process
abbrev pub EndsFrame : Event → (p depth : ℕ) → Type 0
EndsFrame (returned q f v d) p depth = (q ≡ p) × (d ≡ depth)
EndsFrame (raised q f c v d) p depth = (q ≡ p) × (d ≡ depth)
EndsFrame (exited q r) p depth = q ≡ p
EndsFrame e p depth = ⊥

-- a call of a process that is silent afterwards gets no mark, and changes none
abbrev pub SilentCallHasNoMark : Type 0
SilentCallHasNoMark = (t : Session) (ms : List NodeMark) (p : ℕ) (c : Call) → flags_at t p silent_flag ≡ true → marks_after t ms (called p c) ≡ ms

-- of one that isn't, a frame without a mark gets that which the session has of it
abbrev pub CallHasItsMark : Type 0
CallHasItsMark =
    (t : Session) (ms : List NodeMark) (p : ℕ) (c : Call) → flags_at t p silent_flag ≡ false → kind_at ms p c.depth ≡ None →
    kind_at (marks_after t ms (called p c)) p c.depth ≡ mark_of t p c.depth

-- a frame that an event ends has no mark afterwards
abbrev pub EndedFrameHasNoMark : Type 0
EndedFrameHasNoMark = (t : Session) (ms : List NodeMark) (e : Event) (p depth : ℕ) → EndsFrame e p depth → kind_at (marks_after t ms e) p depth ≡ None

-- any other has the mark that it had
abbrev pub OtherFrameHasItsMark : Type 0
OtherFrameHasItsMark =
    (t : Session) (ms : List NodeMark) (e : Event) (p depth : ℕ) (k : MarkKind) → (EndsFrame e p depth → ⊥) → kind_at ms p depth ≡ Some k →
    kind_at (marks_after t ms e) p depth ≡ Some k

-- and a frame that had none gets one by its call alone
abbrev pub NoMarkWithoutCall : Type 0
NoMarkWithoutCall =
    (t : Session) (ms : List NodeMark) (e : Event) (p depth : ℕ) → (CallsFrame e p depth → ⊥) → kind_at ms p depth ≡ None →
    kind_at (marks_after t ms e) p depth ≡ None

-- the frame has one mark at most
abbrev pub HasOneMarkAtMost : List NodeMark → (p depth : ℕ) → Type 0
HasOneMarkAtMost ms p depth = count_by (λ m. is_mark_at p depth m) ms ≤ 1

-- which stays so, where a frame that is called has no mark yet
abbrev pub FrameHasOneMark : Type 0
FrameHasOneMark =
    (t : Session) (ms : List NodeMark) (e : Event) (p depth : ℕ) → (CallsFrame e p depth → kind_at ms p depth ≡ None) → HasOneMarkAtMost ms p depth →
    HasOneMarkAtMost (marks_after t ms e) p depth

-- an error in a call that is marked for exceptions leaves the frame of that call first, and has a message of its function
abbrev pub NewestFrameIsFirst : Type 0
NewestFrameIsFirst =
    (t : Session) (ms : List NodeMark) (p : ℕ) (c : Call) (x : Tree) → flags_at t p silent_flag ≡ false → mark_of t p c.depth ≡ Some for_exceptions →
    exceptions_of (marks_after t ms (called p c)) p x ≡ message_where true (raised p c.mfa error x c.depth) ++ exceptions_of ms p x

-- a call that is marked for returns alone has no such message
abbrev pub ReturnsMarkHasNoException : Type 0
ReturnsMarkHasNoException =
    (t : Session) (ms : List NodeMark) (p : ℕ) (c : Call) (x : Tree) → mark_of t p c.depth ≡ Some for_returns →
    exceptions_of (marks_after t ms (called p c)) p x ≡ exceptions_of ms p x

-- nor has a call of another process
abbrev pub OtherProcessHasNoException : Type 0
OtherProcessHasNoException =
    (t : Session) (ms : List NodeMark) (p q : ℕ) (c : Call) (x : Tree) → q ≢ p →
    exceptions_of (marks_after t ms (called q c)) p x ≡ exceptions_of ms p x

-- ---- one session

-- the event is of no child whose parent hands on flags
abbrev pub HandsOnNothing : Session → Event → Type 0
HandsOnNothing s (spawned child parent f args) = hands_on (flags_at s parent) ≡ false
HandsOnNothing s e = ⊤

-- then the session there makes of the event what it makes of it here
abbrev pub SameSessionThere : Type 0
SameSessionThere = (s : Session) (e : Event) → HandsOnNothing s e → reported_there s e ≡ event_reported s e

-- a child whose parent hands on flags has no flag there that the parent hadn't
abbrev pub ChildHasNoOtherFlag : Type 0
ChildHasNoOtherFlag =
    (s : Session) (child parent : ℕ) (f : Mfa) (args : List Tree) (x : Flag) → s.phase ≡ live → hands_on (flags_at s parent) ≡ true →
    flags_at (reported_there s (spawned child parent f args)).0 child x ≡ true → flags_at s parent x ≡ true

-- no event changes the flags for new processes
abbrev pub NewFlagsStay : Type 0
NewFlagsStay = (s : Session) (e : Event) → (reported_there s e).0.new_process_flags ≡ s.new_process_flags

-- the process isn't silent after the event
abbrev pub IsNotSilent : Session → Event → (p : ℕ) → Type 0
IsNotSilent s e p = flags_at (event_reported s e).0 p silent_flag ≡ false

-- the event has no rule of its own on a node: a process that sends, receives, returns or raises isn't silent, and the frame that it leaves is marked as here;
-- a parent hands on no flags; an exit is by no error, and of no process that has a signal; a link is to a process that is alive; and no link ends by an exit
abbrev pub IsReportedAlike : NodeRun → Outlook → NodeSession → Event → Type 0
IsReportedAlike r l s (sent p x to alive) = IsNotSilent s.session (sent p x to alive) p
IsReportedAlike r l s (received p sender x) = IsNotSilent s.session (received p sender x) p
IsReportedAlike r l s (returned p f v depth) = IsNotSilent s.session (returned p f v depth) p × (kind_at s.marks p depth ≡ mark_of s.session p depth)
IsReportedAlike r l s (raised p f c v depth) = IsNotSilent s.session (raised p f c v depth) p × (kind_at s.marks p depth ≡ mark_of s.session p depth)
IsReportedAlike r l s (spawned child parent f args) = hands_on (flags_at s.session parent) ≡ false
IsReportedAlike r l s (exited p x) = (l.error ≡ None) × (signal_of r.signals p ≡ None)
IsReportedAlike r l s (linked p q) = is_alive r.alive q ≡ true
IsReportedAlike r l s (getting_unlinked p q) = has_ended r.ended q ≡ false
IsReportedAlike r l s e = ⊤

-- of such an event a live session has the message there that it has here
abbrev pub SameMessageThere : Type 0
SameMessageThere =
    (r : NodeRun) (l : Outlook) (s : NodeSession) (e : Event) → s.session.phase ≡ live → IsReportedAlike r l s e →
    run_messages r l s (reported_there s.session e).0 e (reported_there s.session e).1 ≡ option_to_list (event_reported s.session e).1

-- a frame of a process of the run is marked there as here
abbrev pub HasSameMarks : NodeSession → Type 0
HasSameMarks s = (p depth : ℕ) → FIRST_PID ≤ p → kind_at s.marks p depth ≡ mark_of s.session p depth

-- a call isn't silent, and its frame had no mark
abbrev pub IsMarkedAlike : NodeSession → Event → Type 0
IsMarkedAlike s (called p c) = IsNotSilent s.session (called p c) p × (kind_at s.marks p c.depth ≡ None)
IsMarkedAlike s e = ⊤

-- after such an event of a process of the run, which a live session has, all frames are marked there as here
abbrev pub SameMarksThere : Type 0
SameMarksThere =
    (s : NodeSession) (e : Event) → s.session.phase ≡ live → FIRST_PID ≤ process_of e → IsMarkedAlike s e → HasSameMarks s →
    HasSameMarks (node_reported s e).0

-- ---- a run

-- the sessions here, by their names
abbrev pub sessions_here : Comparison → List NamedSession
sessions_here c = map (λ s. (s.name, s.here)) c.sessions

-- before any move they are those of the program
abbrev pub SessionsHereAtStart : Type 0
SessionsHereAtStart = (p : Program) → sessions_here (comparison_at_start None p) ≡ named_sessions p

-- and after events and commands those of the history of a run
abbrev pub SessionsHereGoByHistory : Type 0
SessionsHereGoByHistory =
    (o : Exports) (l : Outlook) (c : Comparison) (xs : List HistoryItem) → sessions_here (after_items o l c xs) ≡ all_after_items o (sessions_here c) xs

-- a live session is there, after an event, what a session of a node makes of it
abbrev pub SessionThereGoesByEvents : Type 0
SessionThereGoesByEvents =
    (q : NodeRun) (l : Outlook) (s : SessionPair) (e : Event) → s.here.phase ≡ live → (pair_after_in s.here.phase q l s e).there ≡ (node_reported s.there e).0

-- and after a command of its own
abbrev pub SessionThereGoesByCommands : Type 0
SessionThereGoesByCommands =
    (o : Exports) (r : NodeRun) (s : SessionPair) (k : Command) → s.name ≡ session_of k → (pair_after_command o r s k).there.session ≡ (node_command o s.there.session k).0

-- of each move there are lines, or none
abbrev pub EachMoveHasLines : Type 0
EachMoveHasLines = (n : Option Name) (p : Program) (picks : List ℕ) → length (lines_of_run n p picks) ≡ length (move_histories p picks)

-- the lines of one session alone are its lines among those of all sessions
abbrev pub SessionAloneHasItsLines : Type 0
SessionAloneHasItsLines =
    (n : Name) (p : Program) (picks : List ℕ) →
    lines_of_run (Some n) p picks ≡ map (λ ls. filter (λ l. bytes_eq n l.0) ls) (lines_of_run None p picks)

-- there is no note exactly where no command can lead to one, or no move has a line
abbrev pub NoteWhereSomeLine : Type 0
NoteWhereSomeLine =
    (p : Program) (picks : List ℕ) →
    (node_note p picks ≡ None) ↔ ((can_differ p ≡ false) ⊎ (list_any (λ b. b) (moves_that_differ p picks) ≡ false))

-- a note counts the moves that have a line, of which there is one at least, and all moves of the run
pub record CountsMoves (p : Program) (picks : List ℕ) (n : NodeNote) : Type 0 where
  pub with_line : n.differing ≡ count_by has_node_line (lines_of_run None p picks)
  pub one_at_least : 1 ≤ n.differing
  pub no_more : n.differing ≤ n.moves
  pub all_moves : n.moves ≡ length (move_histories p picks)

abbrev pub NoteCountsMoves : Type 0
NoteCountsMoves = (p : Program) (picks : List ℕ) (n : NodeNote) → node_note p picks ≡ Some n → CountsMoves p picks n

-- the account of all moves, and of these sessions, is empty exactly where no move has a line of them
abbrev pub NoAccountWhereNoLine : Type 0
NoAccountWhereNoLine =
    (n : Option Name) (p : Program) (picks : List ℕ) →
    (node_account_text (record { session = n; move = None }) p picks ≡ []) ↔ (list_any has_node_line (lines_of_run n p picks) ≡ false)
