-- What is promised of reasons and causes (own).
-- Depends on reasons, on causes, on which clause fires and on what a session makes of an event.
use Rattle.std.specs.Prelude.{◌≡◌, ◌↔◌, ℕ, true, List, [], ◌∷◌, ◌++◌, option_to_list, Some, None}
use Rattle.std.specs.Option.{option_map}
use Rattle.def_term.specs.Tree.{Tree, Trees, list, of_elements}
use Rattle.def_spec.specs.Matching.{Pattern, Bindings, Matches}
use Rattle.def_spec.specs.Functions.{Func}
use Rattle.def_spec.specs.Reading.{found_in, table, a_function, an_action}
use Rattle.def_spec.specs.Expressions.{Action, Dialect, Expr, Exprs, Context, Effect, in_condition, value}
use Rattle.def_spec.specs.Outcome.{Clause, Fires, outcome_in}
use Rattle.def_explain.specs.Heads.{HeadReason, IsHeadReason}
use Rattle.def_explain.specs.Mismatches.{Mismatch, IsMismatch, mismatch_of}
use Rattle.def_explain.specs.Values.{FaultsAt}
use Rattle.def_trap.specs.Actions.{action_name}
use Rattle.def_explain.specs.Spellings.{function_name}
use Rattle.def_explain.specs.Differences.{Difference, evaluates_from_right, faults_in_logic, reads_no_list, ReadsNoList, list_difference, OneShowsOrder, order_difference, logic_difference, BodyDiffers, body_differs, EventDiffers, event_difference, StepDiffers, step_differs, evaluation_differences}
use Rattle.def_explain.specs.Logic.{ClauseHasLogicOnOther}
use Rattle.def_explain.specs.CommandDifferences.{CommandDiffers, command_difference}
use Rattle.def_explain.specs.Accounts.{reported_in_lines, differences_in_lines, event_lines}
use Rattle.def_explain.specs.Places.{StopsAtClause, stop_of}
use Rattle.def_script.specs.Program.{Command}
use Rattle.def_script.specs.Exports.{Exports}
use Rattle.def_node.specs.Event.{Event}
use Rattle.def_outlook.specs.Outlook.{RuntimeError, Outlook}
use Rattle.def_explain.specs.Limits.{PassesLimit, limit_text, limit_said}
use Rattle.def_session.specs.State.{live, Session}
use Rattle.def_session.specs.Session.{effects_of, reported_for, event_reported}
use Rattle.def_explain.specs.Reasons.{Reason, bound_within, IsReason, reason_of}
use Rattle.def_explain.specs.Causes.{Cause, IsCause, cause_of}
use Rattle.def_explain.specs.Verdicts.{Verdict, IsVerdict, verdict_of, outcome_by_verdicts}

-- there is a reason exactly where no binding is one with which the clause fires
abbrev pub ReasonWhereNotFired : Type 0
ReasonWhereNotFired = (d : Dialect) (k : Clause) (c : Context) → ((r : Reason) × IsReason d k c r) ↔ ((b : Bindings) → ¬ Fires d k c b)

-- and there is one at most
abbrev pub ReasonIsOne : Type 0
ReasonIsOne = (d : Dialect) (k : Clause) (c : Context) (q r : Reason) → IsReason d k c q → IsReason d k c r → q ≡ r

-- what is computed is the reason
abbrev pub ReasonIsComputed : Type 0
ReasonIsComputed = (d : Dialect) (k : Clause) (c : Context) (r : Reason) → (reason_of d k c ≡ Some r) ↔ IsReason d k c r

-- what is computed is what becomes of a clause: it has one verdict
abbrev pub VerdictIsComputed : Type 0
VerdictIsComputed = (d : Dialect) (k : Clause) (c : Context) (v : Verdict) → (verdict_of d k c ≡ v) ↔ IsVerdict d k c v

-- the outcome is that of the first clause whose verdict is that it fires
abbrev pub OutcomeIsByVerdicts : Type 0
OutcomeIsByVerdicts = (d : Dialect) (ks : List Clause) (c : Context) → outcome_by_verdicts d ks c ≡ outcome_in d ks c

-- what is computed is the first term that is no clause
abbrev pub StopIsComputed : Type 0
StopIsComputed = (d : Dialect) (ts : Trees) (n : ℕ) → (stop_of d (list ts) ≡ Some n) ↔ StopsAtClause d ts n

-- by its name a function is read as itself, and an action too
abbrev pub FunctionNameIsRead : Type 0
FunctionNameIsRead = (f : Func) → option_map (λ r. r.called) (found_in table (function_name f)) ≡ Some (a_function f)

abbrev pub ActionNameIsRead : Type 0
ActionNameIsRead = (a : Action) → option_map (λ r. r.called) (found_in table (action_name a)) ≡ Some (an_action a)

-- a head has a reason exactly where it matches with no binding
abbrev pub HeadReasonWhereNotMatched : Type 0
HeadReasonWhereNotMatched = (p : Pattern) (ts : List Tree) → ((r : HeadReason) × IsHeadReason p ts r) ↔ ((b : Bindings) → ¬ Matches p (list (of_elements ts)) b)

-- a pattern differs from a term somewhere exactly where it matches it with no binding
abbrev pub MismatchWhereNotMatched : Type 0
MismatchWhereNotMatched = (p : Pattern) (t : Tree) → ((m : Mismatch) × IsMismatch p t m) ↔ ((b : Bindings) → ¬ Matches p t b)

-- first at one place at most
abbrev pub MismatchIsOne : Type 0
MismatchIsOne = (p : Pattern) (t : Tree) (m n : Mismatch) → IsMismatch p t m → IsMismatch p t n → m ≡ n

-- and what is computed is that
abbrev pub MismatchIsComputed : Type 0
MismatchIsComputed = (p : Pattern) (t : Tree) (m : Mismatch) → (mismatch_of p t ≡ Some m) ↔ IsMismatch p t m

-- an expression of a condition faults at a part of it exactly where it has no value
abbrev pub FaultWhereNoValue : Type 0
FaultWhereNoValue = (d : Dialect) (b : Bindings) (c : Context) (e : Expr) → ((x : Expr) × FaultsAt d b c e x) ↔ (value d in_condition b c e ≡ None)

-- a condition has the same value with the bindings of the variables that stand in it alone
abbrev pub ValueOfVariablesWithin : Type 0
ValueOfVariablesWithin = (d : Dialect) (b : Bindings) (c : Context) (e : Expr) → value d in_condition (bound_within e b) c e ≡ value d in_condition b c e

-- a session that is there has a cause for an event exactly where it reports nothing of it
abbrev pub CauseWhereNothingTold : Type 0
CauseWhereNothingTold = (s : Session) (e : Event) → ((x : Cause) × IsCause s e x) ↔ ((reported_for s e (effects_of s e)).1 ≡ None)

-- and one at most
abbrev pub CauseIsOne : Type 0
CauseIsOne = (s : Session) (e : Event) (x y : Cause) → IsCause s e x → IsCause s e y → x ≡ y

-- what is computed is the cause
abbrev pub CauseIsComputed : Type 0
CauseIsComputed = (s : Session) (e : Event) (x : Cause) → (cause_of s e ≡ Some x) ↔ IsCause s e x

-- the messages among the lines of an event are the session's message of it
abbrev pub LinesTellTheMessage : Type 0
LinesTellTheMessage = (s : Session) (l : Outlook) (e : Event) → reported_in_lines (event_lines s l e) ≡ option_to_list (event_reported s e).1

-- a node is known to do otherwise at a clause that fires exactly where it is said so
abbrev pub BodyDifferenceIsComputed : Type 0
BodyDifferenceIsComputed = (d : Dialect) (c : Context) (es : List Effect) (x : Difference) → (body_differs d c es x ≡ true) ↔ BodyDiffers d c es x

-- and by the order of evaluation of its body
abbrev pub OrderDifferenceIsComputed : Type 0
OrderDifferenceIsComputed = (body : Exprs) (x : Difference) → (order_difference body ≡ Some x) ↔ ((x ≡ evaluates_from_right) × OneShowsOrder body)

-- and by logic on what is no boolean
abbrev pub LogicDifferenceIsComputed : Type 0
LogicDifferenceIsComputed =
    (d : Dialect) (k : Clause) (b : Bindings) (c : Context) (x : Difference) → (logic_difference d k b c ≡ Some x) ↔ ((x ≡ faults_in_logic) × ClauseHasLogicOnOther d k b c)

-- and by the list of no elements
abbrev pub ListDifferenceIsComputed : Type 0
ListDifferenceIsComputed = (d : Dialect) (k : Clause) (x : Difference) → (list_difference d k ≡ Some x) ↔ ((x ≡ reads_no_list) × ReadsNoList d k)

-- and at an event without a body
abbrev pub EventDifferenceIsComputed : Type 0
EventDifferenceIsComputed = (s : Session) (e : Event) (x : Difference) → (event_difference s e ≡ Some x) ↔ EventDiffers s e x

-- and by the step at an event
abbrev pub StepDifferenceIsComputed : Type 0
StepDifferenceIsComputed = (s : Session) (l : Outlook) (e : Event) (x : Difference) → (step_differs s l e x ≡ true) ↔ StepDiffers s l e x

-- and by a command
abbrev pub CommandDifferenceIsComputed : Type 0
CommandDifferenceIsComputed = (o : Exports) (s : Session) (c : Command) (x : Difference) → (command_difference o s c ≡ Some x) ↔ CommandDiffers o s c x

-- where a step goes past a limit, the limit is said
abbrev pub LimitIsSaid : Type 0
LimitIsSaid = (s : Session) (l : Outlook) (e : Event) (x : RuntimeError) → PassesLimit s l e x → limit_said s l e ≡ limit_text x ∷ []

-- and what is said is the limit that it goes past
abbrev pub OnlyLimitsAreSaid : Type 0
OnlyLimitsAreSaid =
    (s : Session) (l : Outlook) (e : Event) (t : List ℕ) (rest : List (List ℕ)) → limit_said s l e ≡ t ∷ rest → (x : RuntimeError) × PassesLimit s l e x × (t ≡ limit_text x)

-- among the lines of an event there is each that a node does otherwise, as the event is evaluated and at its end, and nothing else of a node
abbrev pub LinesTellTheDifference : Type 0
LinesTellTheDifference = (s : Session) (l : Outlook) (e : Event) → s.phase ≡ live → differences_in_lines (event_lines s l e) ≡ evaluation_differences s e ++ option_to_list (event_difference s e)
