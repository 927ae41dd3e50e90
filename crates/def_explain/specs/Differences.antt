-- Where a running node does otherwise than a session (own), as measured on OTP 27.3.4 (erts 15.2.7). Of `silent` OTP's documentation says what the session does.
-- Depends on match specifications, on the state of a session before an event, and on what is known of the step of a process before it is made.
use Rattle.std.specs.Prelude.{◌≡◌, ◌≢◌, ◌≤◌, ℕ, zero, suc, ◌==◌, Bool, true, false, not, ◌&&◌, ◌||◌, ◌⊎◌, if◌then◌else◌, List, [], ◌∷◌, ◌++◌, filter, Option, Some, None, option_to_list, codes}
use Rattle.std.specs.Bool.{⊤}
use Rattle.std.specs.List.{list_any}
use Rattle.std.specs.Option.{is_some}
use Rattle.def_term.specs.Alive.{is_alive}
use Rattle.def_term.specs.Tree.{Tree, pid}
use Rattle.def_term.specs.Names.{word}
use Rattle.def_spec.specs.Flags.{Flag, Flags, no_flags, has_all, FlagTable, flags_in, send_flag, receive_flag, call_flag, procs_flag, silent_flag, set_on_spawn, set_on_first_spawn, given_and_kept}
use Rattle.def_spec.specs.Matching.{Pattern, in_list, no_patterns, Bindings}
use Rattle.def_spec.specs.Expressions.{Dialect, for_calls, for_sends, Expr, bound_to, whole_list, all_bound, constant, tuple_of, list_of, call, and_also, or_else, perform, Exprs, no_exprs, and_expr, Context, Effect, silences, changes, flags_by, flags_after}
use Rattle.def_node.specs.Process.{FRAMES}
use Rattle.def_spec.specs.Outcome.{Clause}
use Rattle.def_session.specs.Settings.{Setting, off, plain, by, setting_for}
use Rattle.def_node.specs.Event.{Event, sent, received, called, exited, spawned, linked}
use Rattle.def_outlook.specs.Outlook.{RuntimeError, sends_to_no_pid, links_to_no_pid, unlinks_from_no_pid, Outlook}
use Rattle.def_session.specs.State.{MarkKind, for_exceptions, Session, flags_at, mark_of}
use Rattle.def_session.specs.Messages.{last_message}
use Rattle.def_session.specs.Session.{inherit, context, effects_of, reported_for, mark_asked, is_marked_for_exceptions}
use Rattle.def_trap.specs.Actions.{is_of_calls}
use Rattle.def_explain.specs.Causes.{is_false_message}
use Rattle.def_explain.specs.Lists.{One}
use Rattle.def_explain.specs.Logic.{clause_has_logic_on_other}
use Rattle.def_explain.specs.Verdicts.{Verdict, fails, fires, verdict_of}

-- what a node does:
-- the send ends it with a segmentation fault, where the body clears the sender's last flag;
-- the message of a call is written from memory that was freed, where the body takes the last flag of its process and gives it one again;
-- `silent` suppresses the message of a send or a receive that a match specification decides;
-- a call that is silent gets no mark;
-- `silent` does nothing where the process of a call has no flag;
-- each call that is marked for exceptions has `exception_from` before the end by a run-time error;
-- a child that inherits flags has those alone, and none of the flags for new processes;
-- the arguments of a call and the elements of a tuple are evaluated from the right;
-- `'$_'` after the head `[]` of a call reads memory that isn't the term's;
-- a catch step called one of the frames, and its catch catches the run-time error that ends the process here;
-- the send, link or unlink of what is no pid is reported before its error;
-- the error `noproc` is raised in the step of the link;
-- the receive is reported when the process next runs;
-- the reason of a run-time error that ends the process has the list of calls;
-- logic on what is no boolean is a fault, but the last argument of `andalso` and `orelse` is their value;
-- a function keeps its setting of the other kind;
-- a function that isn't exported loses its local setting;
-- a test of a specification for calls ends the node, where the body changes flags (no session tests one: it has no line of `explain`)
pub data Difference : Type 0 where
  node_ends : Difference
  reads_freed : Difference
  suppresses_message : Difference
  leaves_no_mark : Difference
  ignores_silent : Difference
  reports_exceptions : Difference
  inherits_alone : Difference
  evaluates_from_right : Difference
  reads_no_list : Difference
  catches_error : Difference
  reports_attempt : Difference
  raises_noproc : Difference
  reports_later : Difference
  adds_calls : Difference
  faults_in_logic : Difference
  leaves_other_setting : Difference
  takes_local_setting : Difference
  ends_test : Difference

-- ---- the body of a clause that fires

-- no flag is set
abbrev pub HasNone : Flags → Type 0
HasNone f = (x : Flag) → f x ≡ false

-- after some of these effects the process of this pid has no flag
abbrev pub LosesLastFlag : ℕ → FlagTable → List Effect → Type 0
LosesLastFlag p t es = (ds : List Effect) × (e : Effect) × (fs : List Effect) × (es ≡ ds ++ e ∷ fs) × HasNone (flags_in (flags_after p t (ds ++ e ∷ [])) p)

-- the effect gives the process of this pid a flag
abbrev pub GivesFlag : ℕ → Effect → Type 0
GivesFlag p e = (cleared : Flags) × (set : Flags) × (x : Flag) × (e ≡ changes p cleared set) × (set x ≡ true)

-- after some of these effects the process has no flag, and a later one gives it a flag
abbrev pub GetsFlagAgain : ℕ → FlagTable → List Effect → Type 0
GetsFlagAgain p t es = (ds : List Effect) × (e : Effect) × (fs : List Effect) × (es ≡ ds ++ e ∷ fs) × LosesLastFlag p t ds × GivesFlag p e

-- the effect sets the flag `silent`
abbrev pub sets_silent : Effect → Bool
sets_silent (silences b) = b
sets_silent e = false

-- one of these effects sets `silent` where the process has no flag
abbrev pub SilencesWithoutFlags : ℕ → FlagTable → List Effect → Type 0
SilencesWithoutFlags p t es = (ds : List Effect) × (e : Effect) × (fs : List Effect) × (es ≡ ds ++ e ∷ fs) × (sets_silent e ≡ true) × HasNone (flags_in (flags_after p t ds) p)

-- a change of flags that names one
abbrev pub NamesFlag : Effect → Type 0
NamesFlag e = (n : ℕ) × (cleared : Flags) × (set : Flags) × (x : Flag) × (e ≡ changes n cleared set) × ((cleared x ≡ true) ⊎ (set x ≡ true))

-- whether the process of this pid has the flag `silent` after these effects; `b` is whether it had it before
abbrev pub later_silent : ℕ → Bool → List Effect → Bool
later_silent self_pid b [] = b
later_silent self_pid b (silences x ∷ es) = later_silent self_pid x es
later_silent self_pid b (changes n cleared set ∷ es) = later_silent self_pid (if n == self_pid then set silent_flag || (b && not (cleared silent_flag)) else b) es
later_silent self_pid b (e ∷ es) = later_silent self_pid b es

-- the process is silent after these effects
abbrev pub is_silent_by : Context → List Effect → Bool
is_silent_by c es = later_silent c.self_pid (flags_in c.flags c.self_pid silent_flag) es

abbrev pub IsSilent : Context → List Effect → Type 0
IsSilent c es = is_silent_by c es ≡ true

-- the effects don't suppress the message
abbrev pub IsMessage : List Effect → Type 0
IsMessage es = last_message es ≢ Some (word "false")

-- they ask for a mark
abbrev pub AsksForMark : List Effect → Type 0
AsksForMark es = (k : MarkKind) × (mark_asked es ≡ Some k)

-- a node does this otherwise at a clause of this dialect that fires in this context with these effects
abbrev pub BodyDiffers : Dialect → Context → List Effect → Difference → Type 0
BodyDiffers d c es node_ends = (d ≡ for_sends) × LosesLastFlag c.self_pid c.flags es × IsMessage es
BodyDiffers d c es reads_freed = (d ≡ for_calls) × GetsFlagAgain c.self_pid c.flags es × IsMessage es
BodyDiffers d c es suppresses_message = (d ≢ for_calls) × IsSilent c es × IsMessage es
BodyDiffers d c es leaves_no_mark = (d ≡ for_calls) × IsSilent c es × AsksForMark es
BodyDiffers d c es ignores_silent = (d ≡ for_calls) × SilencesWithoutFlags c.self_pid c.flags es
BodyDiffers d c es ends_test = (d ≡ for_calls) × One NamesFlag es
BodyDiffers d c es x = ⊥

-- ---- the order of evaluation

abbrev mutual
  -- the expression calls an action
  pub CallsAction : Expr → Type 0
  CallsAction (perform a es) = ⊤
  CallsAction (tuple_of es) = OneCallsAction es
  CallsAction (list_of es) = OneCallsAction es
  CallsAction (call f es) = OneCallsAction es
  CallsAction (and_also es) = OneCallsAction es
  CallsAction (or_else es) = OneCallsAction es
  CallsAction (bound_to n) = ⊥
  CallsAction whole_list = ⊥
  CallsAction all_bound = ⊥
  CallsAction (constant t) = ⊥

  -- one of several does
  pub OneCallsAction : Exprs → Type 0
  OneCallsAction no_exprs = ⊥
  OneCallsAction (and_expr e es) = CallsAction e ⊎ OneCallsAction es

-- two of several do
abbrev pub TwoCallActions : Exprs → Type 0
TwoCallActions no_exprs = ⊥
TwoCallActions (and_expr e es) = (CallsAction e × OneCallsAction es) ⊎ TwoCallActions es

abbrev mutual
  -- the expression is a call or a tuple of which two parts have actions, or a part of it is one
  pub ShowsOrder : Expr → Type 0
  ShowsOrder (tuple_of es) = TwoCallActions es ⊎ OneShowsOrder es
  ShowsOrder (call f es) = TwoCallActions es ⊎ OneShowsOrder es
  ShowsOrder (perform a es) = TwoCallActions es ⊎ OneShowsOrder es
  ShowsOrder (list_of es) = OneShowsOrder es
  ShowsOrder (and_also es) = OneShowsOrder es
  ShowsOrder (or_else es) = OneShowsOrder es
  ShowsOrder (bound_to n) = ⊥
  ShowsOrder whole_list = ⊥
  ShowsOrder all_bound = ⊥
  ShowsOrder (constant t) = ⊥

  -- one of several is
  pub OneShowsOrder : Exprs → Type 0
  OneShowsOrder no_exprs = ⊥
  OneShowsOrder (and_expr e es) = ShowsOrder e ⊎ OneShowsOrder es

-- ---- the list of no elements

abbrev mutual
  -- `'$_'` stands in the expression
  pub HasWholeList : Expr → Type 0
  HasWholeList whole_list = ⊤
  HasWholeList (tuple_of es) = OneHasWholeList es
  HasWholeList (list_of es) = OneHasWholeList es
  HasWholeList (call f es) = OneHasWholeList es
  HasWholeList (perform a es) = OneHasWholeList es
  HasWholeList (and_also es) = OneHasWholeList es
  HasWholeList (or_else es) = OneHasWholeList es
  HasWholeList (bound_to n) = ⊥
  HasWholeList all_bound = ⊥
  HasWholeList (constant t) = ⊥

  -- in one of several
  pub OneHasWholeList : Exprs → Type 0
  OneHasWholeList no_exprs = ⊥
  OneHasWholeList (and_expr e es) = HasWholeList e ⊎ OneHasWholeList es

-- the clause's head is the list of no elements, and `'$_'` stands in its conditions or its body
abbrev pub HasListOfNone : Clause → Type 0
HasListOfNone k = (k.head ≡ in_list no_patterns) × (OneHasWholeList k.conditions ⊎ OneHasWholeList k.body)

-- and it is for calls
abbrev pub ReadsNoList : Dialect → Clause → Type 0
ReadsNoList d k = (d ≡ for_calls) × HasListOfNone k

-- ---- an event without a body: a child

-- a process with these flags hands on flags at a spawn
abbrev pub hands_on : Flags → Bool
hands_on f = f set_on_spawn || f set_on_first_spawn

-- those that it hands on
abbrev pub handed_on : Flags → Flags
handed_on f = (given_and_kept set_on_spawn set_on_first_spawn f).0

-- a flag of these isn't one of those
abbrev pub HasFlagBeside : (these those : Flags) → Type 0
HasFlagBeside these those = (x : Flag) × (these x ≡ true) × (those x ≡ false)

-- the parent hands on flags, and the child has others too
abbrev pub InheritsMore : Session → Event → (parent child : ℕ) → Type 0
InheritsMore s e parent child = (hands_on (flags_at s parent) ≡ true) × HasFlagBeside (flags_at (inherit s e) child) (handed_on (flags_at s parent))

-- a node does this otherwise at this event of a session in this state
abbrev pub EventDiffers : Session → Event → Difference → Type 0
EventDiffers s (spawned child parent f args) x = (x ≡ inherits_alone) × InheritsMore s (spawned child parent f args) parent child
EventDiffers s e x = ⊥

-- ---- an event by a step of which this was known before it

-- the process has a flag
abbrev pub HasFlags : Session → (p : ℕ) → Type 0
HasFlags s p = HasNone (flags_at s p) → ⊥

-- the step is a run-time error
abbrev pub HasError : Outlook → Type 0
HasError l = (x : RuntimeError) × (l.error ≡ Some x)

-- a process with `call` has a frame that is marked for exceptions
abbrev pub HasMarkedFrame : Session → (p : ℕ) → Type 0
HasMarkedFrame s p = (flags_at s p call_flag ≡ true) × ((depth : ℕ) × (depth ≤ FRAMES) × (mark_of s p depth ≡ Some for_exceptions))

-- a run-time error ends a process that has a flag, and a catch step called one of its frames
abbrev pub IsCaughtError : Session → Outlook → (p : ℕ) → Type 0
IsCaughtError s l p = HasFlags s p × HasError l × ((depth : ℕ) × (l.caught_at ≡ Some depth))

-- the flag by which a node reports a step with this error before the error
abbrev pub attempt_flag : RuntimeError → Option Flag
attempt_flag sends_to_no_pid = Some send_flag
attempt_flag links_to_no_pid = Some procs_flag
attempt_flag unlinks_from_no_pid = Some procs_flag
attempt_flag x = None

-- the process has that flag
abbrev pub IsAttempt : Session → Outlook → (p : ℕ) → Type 0
IsAttempt s l p = (x : RuntimeError) × (f : Flag) × (l.error ≡ Some x) × (attempt_flag x ≡ Some f) × (flags_at s p f ≡ true)

-- a process that has a flag links itself to one that isn't alive
abbrev pub IsLinkToNoProcess : Session → (p other : ℕ) → Type 0
IsLinkToNoProcess s p other = HasFlags s p × (is_alive s.alive other ≡ false)

-- a receive is reported whose process doesn't wait for a message
abbrev pub IsReportedEarly : Session → Outlook → Event → Type 0
IsReportedEarly s l e = (l.is_awaited ≡ false) × ((m : Tree) × ((reported_for s e (effects_of s e)).1 ≡ Some m))

-- a node does this otherwise by the step at this event of a session in this state
abbrev pub StepDiffers : Session → Outlook → Event → Difference → Type 0
StepDiffers s l (exited p r) reports_attempt = IsAttempt s l p
StepDiffers s l (exited p r) catches_error = IsCaughtError s l p
StepDiffers s l (exited p r) adds_calls = HasFlags s p × HasError l
StepDiffers s l (exited p r) reports_exceptions = HasError l × HasMarkedFrame s p
StepDiffers s l (linked p other) raises_noproc = IsLinkToNoProcess s p other
StepDiffers s l (received p sender t) reports_later = IsReportedEarly s l (received p sender t)
StepDiffers s l e x = ⊥

-- ---- the same, computed

-- no flag is set
abbrev pub has_none : Flags → Bool
has_none f = has_all no_flags f

-- after some of these effects the process of this pid has no flag
abbrev pub loses_last_flag : ℕ → FlagTable → List Effect → Bool
loses_last_flag p t [] = false
loses_last_flag p t (e ∷ es) = has_none (flags_in (flags_by p t e) p) || loses_last_flag p (flags_by p t e) es

-- the effect gives the process of this pid a flag
abbrev pub gives_flag : ℕ → Effect → Bool
gives_flag p (changes n cleared set) = (n == p) && not (has_none set)
gives_flag p e = false

-- one of these effects gives it a flag after it lost the last; `lost` is whether it had lost it before them
abbrev pub gets_flag_again : ℕ → FlagTable → (lost : Bool) → List Effect → Bool
gets_flag_again p t lost [] = false
gets_flag_again p t lost (e ∷ es) = (lost && gives_flag p e) || gets_flag_again p (flags_by p t e) (lost || has_none (flags_in (flags_by p t e) p)) es

-- one of these effects sets `silent` where the process has no flag
abbrev pub silences_without_flags : ℕ → FlagTable → List Effect → Bool
silences_without_flags p t [] = false
silences_without_flags p t (e ∷ es) = (sets_silent e && has_none (flags_in t p)) || silences_without_flags p (flags_by p t e) es

-- a change of flags that names one
abbrev pub names_flag : Effect → Bool
names_flag (changes n cleared set) = not (has_none cleared) || not (has_none set)
names_flag e = false

abbrev mutual
  -- the expression calls an action
  pub calls_action : Expr → Bool
  calls_action (perform a es) = true
  calls_action (tuple_of es) = one_calls_action es
  calls_action (list_of es) = one_calls_action es
  calls_action (call f es) = one_calls_action es
  calls_action (and_also es) = one_calls_action es
  calls_action (or_else es) = one_calls_action es
  calls_action (bound_to n) = false
  calls_action whole_list = false
  calls_action all_bound = false
  calls_action (constant t) = false

  -- one of several does
  pub one_calls_action : Exprs → Bool
  one_calls_action no_exprs = false
  one_calls_action (and_expr e es) = calls_action e || one_calls_action es

-- two of several do
abbrev pub two_call_actions : Exprs → Bool
two_call_actions no_exprs = false
two_call_actions (and_expr e es) = (calls_action e && one_calls_action es) || two_call_actions es

abbrev mutual
  -- a call or a tuple of which two parts have actions, or a part that is one
  pub shows_order : Expr → Bool
  shows_order (tuple_of es) = two_call_actions es || one_shows_order es
  shows_order (call f es) = two_call_actions es || one_shows_order es
  shows_order (perform a es) = two_call_actions es || one_shows_order es
  shows_order (list_of es) = one_shows_order es
  shows_order (and_also es) = one_shows_order es
  shows_order (or_else es) = one_shows_order es
  shows_order (bound_to n) = false
  shows_order whole_list = false
  shows_order all_bound = false
  shows_order (constant t) = false

  -- one of several is
  pub one_shows_order : Exprs → Bool
  one_shows_order no_exprs = false
  one_shows_order (and_expr e es) = shows_order e || one_shows_order es

-- a difference, where it is one
abbrev pub difference_where : Bool → Difference → Option Difference
difference_where b x = if b then Some x else None

abbrev mutual
  -- `'$_'` stands in the expression
  pub has_whole_list : Expr → Bool
  has_whole_list whole_list = true
  has_whole_list (tuple_of es) = one_has_whole_list es
  has_whole_list (list_of es) = one_has_whole_list es
  has_whole_list (call f es) = one_has_whole_list es
  has_whole_list (perform a es) = one_has_whole_list es
  has_whole_list (and_also es) = one_has_whole_list es
  has_whole_list (or_else es) = one_has_whole_list es
  has_whole_list (bound_to n) = false
  has_whole_list all_bound = false
  has_whole_list (constant t) = false

  -- in one of several
  pub one_has_whole_list : Exprs → Bool
  one_has_whole_list no_exprs = false
  one_has_whole_list (and_expr e es) = has_whole_list e || one_has_whole_list es

-- a head that is the list of no elements
abbrev pub is_list_of_none : Pattern → Bool
is_list_of_none (in_list no_patterns) = true
is_list_of_none p = false

-- with `'$_'` in the conditions or the body after it
abbrev pub has_list_of_none : Clause → Bool
has_list_of_none k = is_list_of_none k.head && (one_has_whole_list k.conditions || one_has_whole_list k.body)

-- that of the order of evaluation of a body
abbrev pub order_difference : Exprs → Option Difference
order_difference body = difference_where (one_shows_order body) evaluates_from_right

-- the dialect is that of sends
abbrev pub is_of_sends : Dialect → Bool
is_of_sends for_sends = true
is_of_sends d = false

-- whether a node does this otherwise at a clause that fires
abbrev pub body_differs : Dialect → Context → List Effect → Difference → Bool
body_differs d c es node_ends = is_of_sends d && (loses_last_flag c.self_pid c.flags es && not (is_false_message (last_message es)))
body_differs d c es reads_freed = is_of_calls d && (gets_flag_again c.self_pid c.flags false es && not (is_false_message (last_message es)))
body_differs d c es suppresses_message = not (is_of_calls d) && (is_silent_by c es && not (is_false_message (last_message es)))
body_differs d c es leaves_no_mark = is_of_calls d && (is_silent_by c es && is_some (mark_asked es))
body_differs d c es ignores_silent = is_of_calls d && silences_without_flags c.self_pid c.flags es
body_differs d c es ends_test = is_of_calls d && list_any names_flag es
body_differs d c es x = false

-- by its effects, in a session
abbrev pub body_differences : Dialect → Context → List Effect → List Difference
body_differences d c es = filter (body_differs d c es) (node_ends ∷ reads_freed ∷ suppresses_message ∷ leaves_no_mark ∷ ignores_silent ∷ [])

-- by its effects, in a test of the specification alone
abbrev pub test_differences : Dialect → Context → List Effect → List Difference
test_differences d c es = filter (body_differs d c es) (ends_test ∷ [])

-- that of logic on what is no boolean
abbrev pub logic_difference : Dialect → Clause → Bindings → Context → Option Difference
logic_difference d k b c = difference_where (clause_has_logic_on_other d k b c) faults_in_logic

-- that of the list of no elements
abbrev pub list_differs : Dialect → Clause → Bool
list_differs d k = is_of_calls d && has_list_of_none k

abbrev pub list_difference : Dialect → Clause → Option Difference
list_difference d k = difference_where (list_differs d k) reads_no_list

-- all that a node does otherwise at a clause that fires with these bindings
abbrev pub clause_differences : Dialect → Clause → Bindings → Context → List Effect → List Difference
clause_differences d k b c es = option_to_list (order_difference k.body) ++ (option_to_list (logic_difference d k b c) ++ (option_to_list (list_difference d k) ++ body_differences d c es))

-- at a clause or, where it doesn't fire, at those after it
abbrev pub differences_by : Dialect → Clause → Context → Verdict → List Difference → List Difference
differences_by d k c (fails r) rest = rest
differences_by d k c (fires b es) rest = clause_differences d k b c es

-- at the first clause that fires
abbrev pub firing_differences : Dialect → List Clause → Context → List Difference
firing_differences d [] c = []
firing_differences d (k ∷ ks) c = differences_by d k c (verdict_of d k c) (firing_differences d ks c)

-- of a setting in a context
abbrev pub setting_differences : Setting → Context → List Difference
setting_differences off c = []
setting_differences plain c = []
setting_differences (by s) c = firing_differences s.dialect s.clauses c

-- where the process has the flag
abbrev pub differences_if : Bool → List Difference → List Difference
differences_if b xs = if b then xs else []

-- all that a node does otherwise as the event is evaluated
abbrev pub evaluation_differences : Session → Event → List Difference
evaluation_differences s (sent p t to alive) = differences_if (flags_at s p send_flag) (setting_differences s.sending (context s p (pid to ∷ t ∷ []) None))
evaluation_differences s (received p sender t) = differences_if (flags_at s p receive_flag) (setting_differences s.receiving (context s p (word "nonode@nohost" ∷ pid sender ∷ t ∷ []) None))
evaluation_differences s (called p c) = differences_if (flags_at s p call_flag) (setting_differences (setting_for s.functions c) (context s p c.args c.caller))
evaluation_differences s e = []

-- a flag of these isn't one of those
abbrev pub has_other : (these those : Flags) → Bool
has_other these those = not (has_all those these)

-- a parent with these flags hands on flags, and its child has others too
abbrev pub inherits_more : (parent child : Flags) → Bool
inherits_more parent child = hands_on parent && has_other child (handed_on parent)

-- what a node does otherwise at an event without a body
abbrev pub event_difference : Session → Event → Option Difference
event_difference s (spawned child parent f args) = difference_where (inherits_more (flags_at s parent) (flags_at (inherit s (spawned child parent f args)) child)) inherits_alone
event_difference s e = None

-- the process has a flag
abbrev pub is_traced : Session → (p : ℕ) → Bool
is_traced s p = not (has_none (flags_at s p))

-- one of the first so many depths has a mark for exceptions
unfoldable pub has_mark_below : Session → (p : ℕ) → ℕ → Bool
has_mark_below s p zero = false
has_mark_below s p (suc n) = is_marked_for_exceptions s p n || has_mark_below s p n

-- it has this flag, if there is one
abbrev pub has_that_flag : Session → (p : ℕ) → Option Flag → Bool
has_that_flag s p None = false
has_that_flag s p (Some f) = flags_at s p f

-- it has the flag by which a node reports a step with this error
abbrev pub is_attempt_by : Session → (p : ℕ) → Option RuntimeError → Bool
is_attempt_by s p None = false
is_attempt_by s p (Some x) = has_that_flag s p (attempt_flag x)

-- a session reports a receive whose process doesn't wait
abbrev pub is_reported_early : Outlook → Option Tree → Bool
is_reported_early l m = not l.is_awaited && is_some m

-- it has `call`, and a frame that is marked for exceptions
abbrev pub has_marked_frame : Session → (p : ℕ) → Bool
has_marked_frame s p = flags_at s p call_flag && has_mark_below s p (suc FRAMES)

-- whether a node does this otherwise by the step at this event
abbrev pub step_differs : Session → Outlook → Event → Difference → Bool
step_differs s l (exited p r) reports_attempt = is_attempt_by s p l.error
step_differs s l (exited p r) catches_error = is_traced s p && (is_some l.error && is_some l.caught_at)
step_differs s l (exited p r) adds_calls = is_traced s p && is_some l.error
step_differs s l (exited p r) reports_exceptions = is_some l.error && has_marked_frame s p
step_differs s l (linked p other) raises_noproc = is_traced s p && not (is_alive s.alive other)
step_differs s l (received p sender t) reports_later = is_reported_early l (reported_for s (received p sender t) (effects_of s (received p sender t))).1
step_differs s l e x = false

-- all that a node does otherwise by the step at this event
abbrev pub step_differences : Session → Outlook → Event → List Difference
step_differences s l e = filter (step_differs s l e) (reports_attempt ∷ catches_error ∷ raises_noproc ∷ reports_later ∷ adds_calls ∷ reports_exceptions ∷ [])

-- ---- its text

-- what a node does
abbrev pub difference_text : Difference → List ℕ
difference_text node_ends = codes "this send ends the node with a segmentation fault, since the body clears the sender's last flag"
difference_text reads_freed = codes "the message may be missing, or have other parts: the node reads freed memory"
difference_text suppresses_message = codes "no message: silent"
difference_text leaves_no_mark = codes "no mark: the call is silent"
difference_text ignores_silent = codes "silent does nothing: the process has no flag then"
difference_text reports_exceptions = codes "exception_from first, of each call that is marked for exceptions"
difference_text inherits_alone = codes "the child has the flags of its parent alone"
difference_text evaluates_from_right = codes "arguments and elements of tuples are evaluated from the right, and two of them have actions here"
difference_text reads_no_list = codes "the node ends: '$_' after the head [] reads memory that isn't the term's"
difference_text catches_error = codes "the end is by an error, which a catch catches here"
difference_text reports_attempt = codes "the send, link or unlink is reported first, as one to a pid is"
difference_text raises_noproc = codes "noproc is raised in this step"
difference_text reports_later = codes "reported when the process next runs"
difference_text adds_calls = codes "the reason has the list of calls"
difference_text faults_in_logic = codes "logic on what is no boolean is a fault, but the last argument of andalso or orelse is its value"
difference_text leaves_other_setting = codes "a function has a setting of the other kind, which stays"
difference_text takes_local_setting = codes "a function that isn't exported loses its local setting"
difference_text ends_test = codes "erlang:match_spec_test/3 with this list ends the node, and so do dbg:tp, dbg:tpl and dbg:tpe where the list is []"

-- of a node
abbrev pub on_node : Difference → List ℕ
on_node x = codes "on a node: " ++ difference_text x
