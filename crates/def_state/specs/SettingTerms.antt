-- The match specifications of a session as the terms that its commands gave (trace:function/4, trace:send/3, trace:recv/3).
-- A session keeps what they stand for, and not the terms. So a term is that of the newest command that the session accepted for it.
-- Depends on commands, on the reading of specifications and on what a session sees.
use Rattle.std.specs.Prelude.{Bool, if◌then◌else◌, List, [], ◌∷◌, Option, Some, None, Ok, Err}
use Rattle.def_term.specs.Tree.{Tree}
use Rattle.def_term.specs.Names.{Mfa}
use Rattle.def_script.specs.Program.{Command, create, set_function, set_send, set_receive}
use Rattle.def_spec.specs.Expressions.{for_calls, for_sends, for_receives}
use Rattle.def_spec.specs.Reading.{Reads}
use Rattle.def_session.specs.Settings.{FunctionPattern, FunctionSetting, Setting, setting_of, trace_pattern_of, options_of, has_among}
use Rattle.def_run.specs.Run.{HistoryItem, event_item, command_item}

-- ---- the commands of a session

-- the commands among what a session sees
abbrev pub commands_among : List HistoryItem → List Command
commands_among [] = []
commands_among (event_item e ∷ items) = commands_among items
commands_among (command_item c ∷ items) = c ∷ commands_among items

-- those after the first that creates it; a session accepts none before
abbrev pub after_creation : List Command → List Command
after_creation [] = []
after_creation (create name tracer ∷ cs) = cs
after_creation (c ∷ cs) = after_creation cs

-- the commands to a session that was created
abbrev pub commands_to : List HistoryItem → List Command
commands_to items = after_creation (commands_among items)

-- the later of two values
abbrev pub or_else : {X : Type 0} → Option X → Option X → Option X
or_else (Some x) y = Some x
or_else None y = y

-- what the last of these commands gives that gives anything; where none does, this
abbrev pub newest_from : {X : Type 0} → (Command → Option X) → Option X → List Command → Option X
newest_from f x [] = x
newest_from f x (c ∷ cs) = newest_from f (or_else (f c) x) cs

-- what the last of these commands gives that gives anything
abbrev pub newest : {X : Type 0} → (Command → Option X) → List Command → Option X
newest f cs = newest_from f None cs

-- ---- sends and receives

-- a setting, and the term that it was given as
abbrev pub SettingTerm : Type 0
SettingTerm = Setting × Tree

-- a term that can be read gives its setting; another is refused
abbrev pub setting_term_by : Tree → Reads Setting → Option SettingTerm
setting_term_by t (Ok s) = Some (s, t)
setting_term_by t (Err e) = None

-- what a send command gives
abbrev pub send_term_of : Command → Option SettingTerm
send_term_of (set_send name spec) = setting_term_by spec (setting_of for_sends spec)
send_term_of c = None

-- what a receive command gives
abbrev pub receive_term_of : Command → Option SettingTerm
receive_term_of (set_receive name spec) = setting_term_by spec (setting_of for_receives spec)
receive_term_of c = None

-- ---- functions

-- what an accepted function command sets, and the term of its specification
abbrev pub FunctionTerm : Type 0
FunctionTerm = FunctionSetting × Tree

-- the setting of these functions
abbrev pub function_term_for : FunctionPattern → Bool → Option SettingTerm → Option FunctionTerm
function_term_for covered local None = None
function_term_for covered local (Some g) = Some (record { covered = covered; setting = g.0; local = local }, g.1)

-- faults of the other arguments come before the specification's
abbrev pub function_term_by : Option FunctionPattern → Option Bool → Tree → Option FunctionTerm
function_term_by (Some covered) (Some local) spec = function_term_for covered local (setting_term_by spec (setting_of for_calls spec))
function_term_by _ _ spec = None

-- what a function command gives
abbrev pub function_term_of : Command → Option FunctionTerm
function_term_of (set_function name mfa spec options) = function_term_by (trace_pattern_of mfa) (options_of options) spec
function_term_of c = None

-- where it has the function, exported or not, among its own
abbrev pub term_among : Mfa → Bool → Option FunctionTerm → Option FunctionTerm
term_among f exported None = None
term_among f exported (Some g) = if has_among g.0 f exported then Some g else None

-- what a function command gives for a function
abbrev pub function_term_to : Mfa → Bool → Command → Option FunctionTerm
function_term_to f exported c = term_among f exported (function_term_of c)
