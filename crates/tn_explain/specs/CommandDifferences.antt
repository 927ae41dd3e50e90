-- What a node does otherwise by a command, of the code's functions and sessions.
use Rattle.std.specs.Prelude.{◌≡◌, ℕ, Bool, true, false, List, drop, Option}
use Rattle.std.specs.List.{list_any}
use Rattle.std.specs.Option.{option_map}
use Rattle.def_term.specs.Alive.{Alive}
use Rattle.def_term.specs.Tree.{Tree}
use Rattle.def_script.specs.Program.{Command}
use Rattle.def_spec.specs.Expressions.{for_calls}
use Rattle.def_session.specs.Settings.{Setting, has_among, setting_of, trace_pattern_of, options_of}
use Rattle.def_session.specs.Settings as settings
use Rattle.def_script.specs.Exports.{Exports}
use Rattle.def_session.specs.State as definition
use Rattle.def_explain.specs.Differences.{Difference, leaves_other_setting, difference_where}
use Rattle.def_explain.specs.CommandDifferences.{is_set_otherwise, is_internal_and_set, taken_difference, read_difference, live_difference, command_difference}
use Rattle.def_script.specs.Exports.{visible}
use Rattle.tn_script.specs.Views.{functions_of}
use Rattle.tn_script.specs.declared.form.Function.{Function}
use Rattle.tn_index.specs.Views.{function_pattern_seen}
use Rattle.tn_index.specs.declared.function_setting.FunctionPattern.{FunctionPattern}
use Rattle.tn_session.specs.Looks.{look_seen}
use Rattle.tn_session.specs.declared.look.Look.{Look}
use Rattle.tn_session.specs.declared.session.Session.{Session}
use Rattle.tn_difference.specs.Differences.{difference_seen}
use Rattle.tn_difference.specs.declared.differences.Difference as code
use Rattle.tn_trace.specs.Slots.{IsSession}
use Rattle.tn_command_reason.specs.CommandReasons.{OfFunctions}

-- a difference, where there is one
abbrev pub differences_seen : Option code.Difference → Option Difference
differences_seen r = option_map difference_seen r

-- a matching function has a setting of the other kind
abbrev pub OneIsSetOtherwise : {A : Type 0} → Look A → List (Function A) → FunctionPattern A → Bool → Bool → Type 0
OneIsSetOtherwise l functions covered local r = OfFunctions functions (λ o. r ≡ list_any (is_set_otherwise (look_seen l) (function_pattern_seen covered) local) o.functions)

-- a function that isn't exported, and that the pattern covers, has a local setting
abbrev pub OneIsInternalAndSet : {A : Type 0} → Look A → List (Function A) → FunctionPattern A → Bool → Type 0
OneIsInternalAndSet l functions covered r = OfFunctions functions (λ o. r ≡ list_any (is_internal_and_set (look_seen l) (function_pattern_seen covered)) o.functions)

-- the same of the functions from that place on
abbrev pub set_otherwise_from : {A : Type 0} → Look A → FunctionPattern A → Bool → List (Function A) → ℕ → Bool
set_otherwise_from l covered local functions i = list_any (is_set_otherwise (look_seen l) (function_pattern_seen covered) local) (visible (functions_of (drop i functions)))

abbrev pub internal_and_set_from : {A : Type 0} → Look A → FunctionPattern A → List (Function A) → ℕ → Bool
internal_and_set_from l covered functions i = list_any (is_internal_and_set (look_seen l) (function_pattern_seen covered)) (visible (functions_of (drop i functions)))

-- by a command about these that is local or global, and disables them or doesn't
abbrev pub difference_by : Exports → definition.Session → settings.FunctionPattern → (local on : Bool) → Option Difference
difference_by o s covered local true = taken_difference o s covered local
difference_by o s covered local false = difference_where (list_any (is_set_otherwise s covered local) o.functions) leaves_other_setting

abbrev pub HasPatternDifference : {A : Type 0} → Look A → List (Function A) → FunctionPattern A → (local on : Bool) → Option Difference → Type 0
HasPatternDifference l functions covered local on r = OfFunctions functions (λ o. r ≡ difference_by o (look_seen l) (function_pattern_seen covered) local on)

-- by a function command with these arguments to a session that is looked at
abbrev pub HasFunctionDifference : {A : Type 0} → Look A → List (Function A) → (mfa spec options : Tree) → Option Difference → Type 0
HasFunctionDifference l functions mfa spec options r =
    OfFunctions functions (λ o. r ≡ read_difference o (look_seen l) (trace_pattern_of mfa) (options_of options) (setting_of for_calls spec))

-- by a command to a live session
abbrev pub HasLiveDifference : {A : Type 0} → Look A → List (Function A) → Command → Option Difference → Type 0
HasLiveDifference l functions c r = OfFunctions functions (λ o. r ≡ live_difference o (look_seen l) c)

-- by a command to a session, whoever lives
abbrev pub HasCommandDifference : {A : Type 0} → List (Function A) → Option (Session A) → Command → Option Difference → Type 0
HasCommandDifference functions session c r =
    OfFunctions functions (λ o. (living : Alive) (s : definition.Session) → IsSession o.functions living s session → r ≡ command_difference o s c)
