-- The traps of commands of the code, over the code's functions.
-- Depends on the reasons of commands.
use Rattle.std.specs.Prelude.{◌≡◌, ℕ, Bool, List, map, filter, drop, Option}
use Rattle.def_term.specs.Tree.{Tree}
use Rattle.def_script.specs.Program.{Command}
use Rattle.def_script.specs.Exports.{visible}
use Rattle.def_session.specs.Settings.{FunctionSetting, has_among, trace_pattern_of, options_of}
use Rattle.def_explain.specs.CommandReasons as reasons
use Rattle.def_explain.specs.Remarks.{command_has_trap}
use Rattle.tn_script.specs.Views.{functions_of}
use Rattle.tn_script.specs.declared.form.Function.{Function}
use Rattle.tn_index.specs.Views.{function_pattern_seen}
use Rattle.tn_index.specs.declared.function_setting.FunctionPattern.{FunctionPattern}
use Rattle.tn_command_reason.specs.CommandReasons.{OfFunctions}

-- the arities of the functions from a place on that a command about these matches
abbrev pub arities_from : {A : Type 0} → FunctionSetting → List (Function A) → ℕ → List ℕ
arities_from k functions i = map (λ f. f.0.arity) (filter (λ f. has_among k f.0 f.1) (visible (functions_of (drop i functions))))

-- the arities of the functions that a command about these matches
abbrev pub AreMatchingArities : {A : Type 0} → List (Function A) → FunctionPattern A → Bool → List ℕ → Type 0
AreMatchingArities functions covered local ns = OfFunctions functions (λ o. ns ≡ reasons.matching_arities o (function_pattern_seen covered) local)

-- the trap of a function command with these arguments
abbrev pub HasFunctionTrap : {A : Type 0} → List (Function A) → (mfa spec options : Tree) → Option reasons.CommandReason → Type 0
HasFunctionTrap functions mfa spec options r = OfFunctions functions (λ o. r ≡ reasons.function_trap o spec (trace_pattern_of mfa) (options_of options))

-- the trap of a command
abbrev pub HasTrapReason : {A : Type 0} → List (Function A) → Command → Option reasons.CommandReason → Type 0
HasTrapReason functions c r = OfFunctions functions (λ o. r ≡ reasons.trap_reason o c)

-- whether a command has one
abbrev pub TellsTrap : {A : Type 0} → List (Function A) → Command → Bool → Type 0
TellsTrap functions c b = OfFunctions functions (λ o. b ≡ command_has_trap o c)
