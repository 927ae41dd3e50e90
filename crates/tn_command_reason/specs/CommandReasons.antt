-- What the code's reasons why a command is refused, matches no function or has a trap stand for, and those of the code's sessions and functions.
use Rattle.std.specs.Prelude.{◌≡◌, ℕ, ◌==◌, Bool, List, Option, Some, None}
use Rattle.std.specs.Option.{option_map}
use Rattle.std.specs.Borrow.{Bor}
use Rattle.def_term.specs.Alive.{Alive}
use Rattle.def_term.specs.Names.{Mfa}
use Rattle.def_term.specs.Tree.{Tree}
use Rattle.def_script.specs.Program.{Command}
use Rattle.def_script.specs.Exports.{Exports, visible}
use Rattle.def_spec.specs.Reading.{SpecFault, badarg, unsupported}
use Rattle.def_session.specs.State as definition
use Rattle.def_session.specs.Commands.{matching_count}
use Rattle.def_explain.specs.CommandReasons as reasons
use Rattle.def_explain.specs.CommandReasons.{any_setting}
use Rattle.def_explain.specs.ReasonTexts.{command_reason_text}
use Rattle.tn_term.specs.declared.term.Term.{Term}
use Rattle.tn_term.specs.Views.{tree_of}
use Rattle.tn_script.specs.Views.{functions_of}
use Rattle.tn_script.specs.declared.form.Function.{Function}
use Rattle.tn_index.specs.Views.{function_pattern_seen}
use Rattle.tn_index.specs.declared.function_setting.FunctionPattern.{FunctionPattern}
use Rattle.tn_session.specs.declared.session.Session.{Session}
use Rattle.tn_reason.specs.SpecReasons.{spec_reason_seen}
use Rattle.tn_trace.specs.Slots.{IsSession}
use Rattle.tn_command_reason.specs.HeldTraps.{spec_trap_seen}
use Rattle.tn_command_reason.specs.NearestFunctions.{lent_function}
use Rattle.tn_command_reason.specs.declared.command_reasons.CommandReason.{CommandReason}
use Rattle.tn_command_reason.specs.declared.command_reasons.CommandReason.TheVariants.{NotCreated, ExistsAlready, IsDestroyed, NoProcesses, NotAlive, NoHow, NoFlagList, NoFlag, NoPattern, NoOptions, NoSpecification, NoMatch, NoExportedMatch, HasTrap}

-- why a command is refused, matches no function or has a trap
abbrev pub command_reason_seen : {A : Type 0} → CommandReason A → reasons.CommandReason
command_reason_seen NotCreated = reasons.not_created
command_reason_seen ExistsAlready = reasons.exists_already
command_reason_seen IsDestroyed = reasons.is_destroyed
command_reason_seen (NoProcesses t) = reasons.no_processes (tree_of t.now)
command_reason_seen (NotAlive n) = reasons.not_alive n
command_reason_seen (NoHow t) = reasons.no_how (tree_of t.now)
command_reason_seen (NoFlagList t) = reasons.no_flag_list (tree_of t.now)
command_reason_seen (NoFlag t) = reasons.no_flag (tree_of t.now)
command_reason_seen (NoPattern t) = reasons.no_pattern (tree_of t.now)
command_reason_seen (NoOptions t) = reasons.no_options (tree_of t.now)
command_reason_seen (NoSpecification r) = reasons.no_specification (spec_reason_seen r)
command_reason_seen (NoMatch f) = reasons.no_match (lent_function f)
command_reason_seen NoExportedMatch = reasons.no_exported_match
command_reason_seen (HasTrap t) = spec_trap_seen t

-- the same, where there is a reason
abbrev pub command_reasons_seen : {A : Type 0} → Option (CommandReason A) → Option reasons.CommandReason
command_reasons_seen r = option_map command_reason_seen r

-- the term that is lent, where there is one
abbrev pub lent_terms : {A : Type 0} → Option (Bor (Term A)) → Option Tree
lent_terms t = option_map (λ b. tree_of b.now) t

-- ---- texts

-- that a term is no flag
abbrev pub no_flag_text : Tree → List ℕ
no_flag_text t = command_reason_text (reasons.no_flag t)

-- that a term is no list of options
abbrev pub no_options_text : Tree → List ℕ
no_options_text t = command_reason_text (reasons.no_options t)

-- that a process isn't alive
abbrev pub not_alive_text : ℕ → List ℕ
not_alive_text n = command_reason_text (reasons.not_alive n)

-- that no function matches, and which was probably meant
abbrev pub no_match_text : Option Mfa → List ℕ
no_match_text near = command_reason_text (reasons.no_match near)

-- the fault of a specification that uses an unsupported function of this name, or another
abbrev pub fault_of_name : Option (Bor (List ℕ)) → SpecFault
fault_of_name None = badarg
fault_of_name (Some s) = unsupported s.now

-- ---- of the code's functions and sessions

-- what holds of what sessions know of a program with these functions
abbrev pub OfFunctions : {A : Type 0} → List (Function A) → (Exports → Type 0) → Type 0
OfFunctions functions P = (o : Exports) → o.functions ≡ visible (functions_of functions) → P o

-- whether a command about these functions matches none
abbrev pub MatchesNone : {A : Type 0} → List (Function A) → FunctionPattern A → Bool → Bool → Type 0
MatchesNone functions covered local none = OfFunctions functions (λ o. none ≡ (matching_count o (any_setting (function_pattern_seen covered) local) == 0))

-- why a command about these functions matches none
abbrev pub HasMatchReason : {A : Type 0} → List (Function A) → FunctionPattern A → Bool → Option reasons.CommandReason → Type 0
HasMatchReason functions covered local r = OfFunctions functions (λ o. r ≡ reasons.match_reason o (Some (function_pattern_seen covered)) (Some local))

-- why a function command is refused, or matches no function
abbrev pub HasFunctionReason : {A : Type 0} → List (Function A) → (mfa spec options : Tree) → Option reasons.CommandReason → Type 0
HasFunctionReason functions mfa spec options r = OfFunctions functions (λ o. r ≡ reasons.function_reason o mfa spec options)

-- why a live session refuses a command, or matches no function
abbrev pub HasLiveFailure : {A : Type 0} → List (Function A) → definition.Session → Command → Option reasons.CommandReason → Type 0
HasLiveFailure functions s c r = OfFunctions functions (λ o. r ≡ reasons.live_failure o s c)

-- the same, or which trap a command that is done has
abbrev pub HasLiveReason : {A : Type 0} → List (Function A) → definition.Session → Command → Option reasons.CommandReason → Type 0
HasLiveReason functions s c r = OfFunctions functions (λ o. r ≡ reasons.live_reason o s c)

-- why a session refuses a command, matches no function, or has a trap by it, whoever lives
abbrev pub HasCommandReason : {A : Type 0} → List (Function A) → Option (Session A) → Command → Option reasons.CommandReason → Type 0
HasCommandReason functions session c r =
    OfFunctions functions (λ o. (living : Alive) (s : definition.Session) → IsSession o.functions living s session → r ≡ reasons.command_reason o s c)
