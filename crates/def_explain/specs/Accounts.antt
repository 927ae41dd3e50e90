-- What one session makes of an event or a command, line by line (own).
-- Depends on what a session makes of an event, on why it reports nothing or refuses a command, on what a node does otherwise, and on the texts of reasons and effects.
use Rattle.std.specs.Prelude.{ℕ, suc, if◌then◌else◌, List, [], ◌∷◌, ◌++◌, map, Option, Some, None, option_to_list, codes}
use Rattle.std.specs.Option.{unwrap_or}
use Rattle.def_term.specs.Tree.{Tree, pid}
use Rattle.def_term.specs.Names.{word}
use Rattle.def_term.specs.Text.{pid_text}
use Rattle.def_script.specs.Program.{Command}
use Rattle.def_script.specs.Exports.{Exports}
use Rattle.def_spec.specs.Flags.{Flags, only, without, flags_by_name}
use Rattle.def_spec.specs.Expressions.{Dialect, Context}
use Rattle.def_spec.specs.Outcome.{Clause}
use Rattle.def_node.specs.Event.{Event, sent, received, called, returned, raised, spawned, exited, getting_linked}
use Rattle.def_outlook.specs.Outlook.{Outlook}
use Rattle.def_session.specs.Settings.{Setting, off, plain, by, setting_for}
use Rattle.def_session.specs.State.{Phase, absent, live, destroyed, MarkKind, for_returns, for_exceptions, Session, flags_at}
use Rattle.def_session.specs.Session.{inherit, effects_of, mark_asked, is_marked, context, reported_for}
use Rattle.def_explain.specs.Causes.{Cause, no_mark, marked_for_returns, no_flag, no_setting, of_named_calls, switched_off, no_clause, silenced, message_false, cause_of}
use Rattle.def_explain.specs.Verdicts.{Verdict, fails, fires, verdict_of}
use Rattle.def_explain.specs.Differences.{Difference, clause_differences, event_difference, step_differences}
use Rattle.def_explain.specs.CommandDifferences.{command_difference}
use Rattle.def_explain.specs.Limits.{limit_said}
use Rattle.def_explain.specs.Texts.{said_of_each, effects_text, reason_text, clause_text}
use Rattle.def_explain.specs.ReasonTexts.{mfa_text, reply_text}

-- what is said, a message that is reported, what a running node does otherwise by flags and specifications, or what it does otherwise and isn't counted among that: by the step, or by a command
pub data Line : Type 0 where
  said : List ℕ → Line
  tells : Tree → Line
  differs : Difference → Line
  differs_uncounted : Difference → Line

-- the messages among these lines
abbrev pub reported_in_lines : List Line → List Tree
reported_in_lines [] = []
reported_in_lines (said text ∷ ls) = reported_in_lines ls
reported_in_lines (tells t ∷ ls) = t ∷ reported_in_lines ls
reported_in_lines (differs x ∷ ls) = reported_in_lines ls
reported_in_lines (differs_uncounted x ∷ ls) = reported_in_lines ls

-- what a node does otherwise among these lines, but for what isn't counted
abbrev pub differences_in_lines : List Line → List Difference
differences_in_lines [] = []
differences_in_lines (said text ∷ ls) = differences_in_lines ls
differences_in_lines (tells t ∷ ls) = differences_in_lines ls
differences_in_lines (differs x ∷ ls) = x ∷ differences_in_lines ls
differences_in_lines (differs_uncounted x ∷ ls) = differences_in_lines ls

-- something said after them
abbrev pub followed_by_line : List Line → List ℕ → List Line
followed_by_line ls text = ls ++ said text ∷ []

-- ---- flags

-- the flags that a process had and hasn't now, and those that it has now and hadn't
abbrev pub changed_text : ℕ → (old new : Flags) → List ℕ
changed_text p old new = said_of_each (codes " loses ") (without old new) flags_by_name ++ said_of_each (codes " gets ") (without new old) flags_by_name

-- what is said of a process; no line where it is nothing
abbrev pub line_where : ℕ → List ℕ → List Line
line_where p [] = []
line_where p (b ∷ bs) = said (pid_text p ++ b ∷ bs) ∷ []

-- what becomes of the flags of a process between two states
abbrev pub flag_lines : ℕ → (old new : Session) → List Line
flag_lines p old new = line_where p (changed_text p (flags_at old p) (flags_at new p))

-- what a child or a partner inherits, and what the other keeps
abbrev pub inheritance_lines : Session → Event → List Line
inheritance_lines s (spawned child parent f args) = flag_lines parent s (inherit s (spawned child parent f args)) ++ flag_lines child s (inherit s (spawned child parent f args))
inheritance_lines s (getting_linked p linker) = flag_lines linker s (inherit s (getting_linked p linker)) ++ flag_lines p s (inherit s (getting_linked p linker))
inheritance_lines s e = []

-- ---- clauses

-- a clause that doesn't fire comes before those after it; below one that does there is what a node does otherwise
abbrev pub lines_by : ℕ → Dialect → Clause → Context → Verdict → List Line → List Line
lines_by n d k c (fails r) behind = said (clause_text n (codes ": " ++ reason_text r)) ∷ behind
lines_by n d k c (fires b es) behind = said (clause_text n (codes " fires" ++ effects_text es)) ∷ map differs (clause_differences d k b c es)

-- the clauses after so many, up to the first that fires
abbrev pub clause_lines : ℕ → Dialect → List Clause → Context → List Line
clause_lines n d [] c = said (codes "no clause fires") ∷ []
clause_lines n d (k ∷ ks) c = lines_by n d k c (verdict_of d k c) (clause_lines (suc n) d ks c)

-- of a setting
abbrev pub setting_lines : Setting → Context → List Line
setting_lines off c = said (codes "the setting is false") ∷ []
setting_lines plain c = []
setting_lines (by s) c = clause_lines 0 s.dialect s.clauses c

-- of that by which an event is evaluated, where there is one
abbrev pub evaluation_lines : Session → Event → List Line
evaluation_lines s (sent p t to alive) = setting_lines s.sending (context s p (pid to ∷ t ∷ []) None)
evaluation_lines s (received p sender t) = setting_lines s.receiving (context s p (word "nonode@nohost" ∷ pid sender ∷ t ∷ []) None)
evaluation_lines s (called p c) = setting_lines (setting_for s.functions c) (context s p c.args c.caller)
evaluation_lines s e = []

-- ---- causes

-- the function that has no setting, where the event is a call
abbrev pub no_setting_text : Event → List ℕ
no_setting_text (called p c) = codes "no setting for " ++ mfa_text c.mfa
no_setting_text e = codes "no setting"

-- why nothing is reported
abbrev pub cause_lines : Session → Event → Cause → List Line
cause_lines s e no_mark = said (codes "the call has no mark") ∷ []
cause_lines s e marked_for_returns = said (codes "the call is marked for returns alone") ∷ []
cause_lines s e (no_flag f) = said (codes "no flag" ++ said_of_each (codes " ") (only f) flags_by_name) ∷ []
cause_lines s e no_setting = said (no_setting_text e) ∷ []
cause_lines s e of_named_calls = said (codes "the setting is global, and the call doesn't name the module") ∷ []
cause_lines s e switched_off = evaluation_lines s e
cause_lines s e (no_clause rs) = evaluation_lines s e
cause_lines s e silenced = followed_by_line (evaluation_lines s e) (codes "silent")
cause_lines s e message_false = followed_by_line (evaluation_lines s e) (codes "message false")

-- ---- one event

-- the mark that a call gets
abbrev pub marked_lines : Option MarkKind → List Line
marked_lines None = []
marked_lines (Some for_returns) = said (codes "the call is marked") ∷ []
marked_lines (Some for_exceptions) = said (codes "the call is marked for exceptions") ∷ []

-- the mark that the frame of this depth loses, if it has one
abbrev pub unmarked_lines : Session → ℕ → ℕ → List Line
unmarked_lines s p depth = if is_marked s p depth then said (codes "the mark is gone") ∷ [] else []

-- a call is marked by the effects; a return, or an exception that leaves its frame, takes the mark away
abbrev pub mark_lines : Session → Event → List Line
mark_lines s (called p c) = marked_lines (mark_asked (unwrap_or (effects_of s (called p c)) []))
mark_lines s (returned p f t depth) = unmarked_lines s p depth
mark_lines s (raised p f c t depth) = unmarked_lines s p depth
mark_lines s e = []

-- an exit takes the flags away
abbrev pub end_lines : Session → Event → List Line
end_lines s (exited p r) = line_where p (said_of_each (codes " loses ") (flags_at s p) flags_by_name)
end_lines s e = []

-- why nothing is reported, or what is
abbrev pub message_lines : Session → Event → Option Cause → Option Tree → List Line
message_lines s e (Some c) m = cause_lines s e c
message_lines s e None None = []
message_lines s e None (Some m) = evaluation_lines s e ++ tells m ∷ []

-- of a session once flags were inherited
abbrev pub live_lines : Session → Event → List Line
live_lines s e = message_lines s e (cause_of s e) (reported_for s e (effects_of s e)).1 ++ (mark_lines s e ++ end_lines s e)

-- what a node does otherwise at an event without a body
abbrev pub difference_lines : Session → Event → List Line
difference_lines s e = map differs (option_to_list (event_difference s e))

-- the limit that the step goes past, and what a node does otherwise by the step
abbrev pub step_lines : Session → Outlook → Event → List Line
step_lines s l e = map said (limit_said s l e) ++ map differs_uncounted (step_differences s l e)

-- both
abbrev pub node_lines : Session → Outlook → Event → List Line
node_lines s l e = step_lines s l e ++ difference_lines s e

-- a session that isn't there makes nothing of an event
abbrev pub event_lines_in : Phase → Session → Outlook → Event → List Line
event_lines_in absent s l e = []
event_lines_in destroyed s l e = []
event_lines_in live s l e = inheritance_lines s e ++ live_lines (inherit s e) e ++ node_lines s l e

-- what a session makes of an event, where this was known of the step before it
abbrev pub event_lines : Session → Outlook → Event → List Line
event_lines s l e = event_lines_in s.phase s l e

-- ---- one command

-- the reply to a command of its own, and why it is this one; and what a node does otherwise by it
abbrev pub command_lines : Exports → Session → Command → List Line
command_lines o s c = said (reply_text o s c) ∷ map differs_uncounted (option_to_list (command_difference o s c))
