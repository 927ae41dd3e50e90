-- The lines of an event by when they are known: before the session sees the event, and afterwards.
use Rattle.std.specs.Prelude.{ℕ, Bool, true, false, if◌then◌else◌, List, [], ◌∷◌, ◌++◌, map, Option, Some, None, option_to_list, codes}
use Rattle.def_term.specs.Tree.{Tree}
use Rattle.def_term.specs.Names.{Mfa}
use Rattle.def_term.specs.Text.{w}
use Rattle.def_spec.specs.Flags.{Flags, flags_by_name}
use Rattle.def_spec.specs.Expressions.{Effect}
use Rattle.def_node.specs.Event.{Event, spawned, getting_linked}
use Rattle.def_session.specs.State.{Session}
use Rattle.def_session.specs.Session.{effects_of}
use Rattle.def_explain.specs.Reasons.{Reason}
use Rattle.def_explain.specs.CommandReasons.{CommandReason}
use Rattle.def_explain.specs.ReasonTexts.{mfa_text, reason_after_reply}
use Rattle.def_explain.specs.Causes.{cause_of}
use Rattle.def_explain.specs.Texts.{clause_text, reason_text, effects_text, said_of_each}
use Rattle.def_explain.specs.Differences.{Difference, inherits_alone, clause_differences, inherits_more, difference_where}
use Rattle.def_explain.specs.Accounts.{Line, said, tells, differs, differs_uncounted, line_where, changed_text, message_lines, evaluation_lines, mark_lines, end_lines}
use Rattle.tn_flags.specs.Views.{flags_of}
use Rattle.tn_head.specs.Views.{bindings_seen}
use Rattle.tn_head.specs.declared.bindings.Bindings.{Bindings}
use Rattle.tn_spec.specs.Views.{dialect_of, clause_seen}
use Rattle.tn_spec.specs.declared.spec.Clause as spec
use Rattle.tn_spec.specs.declared.func.Dialect as func
use Rattle.tn_action.specs.Views.{context_seen, effect_seen}
use Rattle.tn_action.specs.declared.context.Context as context
use Rattle.tn_action.specs.declared.effect.Effect as effect
use Rattle.tn_difference.specs.Differences.{difference_seen, body_differs_seen}
use Rattle.tn_difference.specs.declared.differences.Difference as code
use Rattle.tn_explain.specs.declared.differences.Change.{Change}

-- the process that gives flags and the one that inherits them, where the event is of that
abbrev pub both_of : Event → Option (ℕ × ℕ)
both_of (spawned child parent f args) = Some (parent, child)
both_of (getting_linked p linker) = Some (linker, p)
both_of e = None

-- the line of a difference, where it is one
abbrev pub differs_where : Bool → Difference → List Line
differs_where holds x = if holds then differs x ∷ [] else []

-- the line of a difference by the step, where it is one
abbrev pub step_where : Bool → Difference → List Line
step_where holds x = if holds then differs_uncounted x ∷ [] else []

-- the line of a difference at a clause that fires, where it is one
abbrev pub body_difference_line : {A : Type 0} → code.Difference → func.Dialect → context.Context A → List (effect.Effect A) → List Line
body_difference_line x d c es = differs_where (body_differs_seen x d c es) (difference_seen x)

-- a line for each that a node does otherwise at a clause that fires
abbrev pub difference_lines_of : {A B : Type 0} → func.Dialect → spec.Clause A → Bindings A B → context.Context A → List (effect.Effect A) → List Line
difference_lines_of d k b c es = map differs (clause_differences (dialect_of d) (clause_seen k) (bindings_seen b) (context_seen c) (map effect_seen es))

-- the difference at an event by which one process inherits flags of another, by the flags of both
abbrev pub inherited_by_flags : Event → (given_by giver had taker : Flags) → Option Difference
inherited_by_flags (spawned child parent f args) given_by giver had taker = difference_where (inherits_more given_by taker) inherits_alone
inherited_by_flags e given_by giver had taker = None

abbrev pub inherited_difference : Event → Change → Change → Option Difference
inherited_difference e giver taker = inherited_by_flags e (flags_of giver.old) (flags_of giver.new) (flags_of taker.old) (flags_of taker.new)

-- a clause that doesn't fire
abbrev pub failing_lines : ℕ → Reason → List Line
failing_lines n r = said (clause_text n (codes ": " ++ reason_text r)) ∷ []

-- one that fires
abbrev pub firing_lines : ℕ → List Effect → List Line
firing_lines n es = said (clause_text n (codes " fires" ++ effects_text es)) ∷ []

-- why the event isn't evaluated, or its evaluation
abbrev pub lines_by_effects : Session → Event → Option (List Effect) → List Line
lines_by_effects s e None = message_lines s e (cause_of s e) None
lines_by_effects s e (Some es) = evaluation_lines s e

abbrev pub lines_before : Session → Event → List Line
lines_before s e = lines_by_effects s e (effects_of s e)

-- what an event that is evaluated or not is reported by, where the message is silenced or not
abbrev pub reported_lines : Bool → Bool → Option Tree → List Line
reported_lines false silent m = []
reported_lines true silent (Some m) = tells m ∷ []
reported_lines true true None = said (codes "silent") ∷ []
reported_lines true false None = said (codes "message false") ∷ []

-- the lines at the end
abbrev pub lines_after : Session → Event → List Line
lines_after s e = mark_lines s e ++ end_lines s e

-- of a process that inherits flags there is a message, or it has no flag for it
abbrev pub reported_or_no_flag : Option Tree → List Line
reported_or_no_flag (Some m) = tells m ∷ []
reported_or_no_flag None = said (codes "no flag procs") ∷ []

-- what becomes of the flags of a process
abbrev pub changed_lines : ℕ → (old new : Flags) → List Line
changed_lines p old new = line_where p (changed_text p old new)

-- the flags that a process loses at its end
abbrev pub lost_lines : ℕ → Flags → List Line
lost_lines p f = line_where p (said_of_each (codes " loses ") f flags_by_name)

-- no command covers the function
abbrev pub uncovered_lines : Mfa → List Line
uncovered_lines f = said (codes "no setting for " ++ mfa_text f) ∷ []

-- the reply to a command, and why it is this one
abbrev pub reply_lines : Tree → Option CommandReason → List Line
reply_lines t r = said (codes "replies " ++ w t ++ reason_after_reply r) ∷ []

-- what a node does otherwise by a command, where there is such a thing
abbrev pub uncounted_lines : Option Difference → List Line
uncounted_lines x = map differs_uncounted (option_to_list x)

-- the line of what is said, where it is
abbrev pub said_where : Bool → List ℕ → List Line
said_where holds text = if holds then said text ∷ [] else []
