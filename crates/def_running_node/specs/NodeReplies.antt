-- What a command does to a session of a running node, and its reply (own, as measured on OTP 27.3.4 (erts 15.2.7)). It is as here, but for this:
-- `false` for new processes clears all their flags; a `process` command without flags for all or existing processes replies 0; a function has one setting, which `false` of the other kind leaves, and a global setting
-- takes the local one of a function that isn't exported; an option may stand several times; and an arity that no function has, such as 256, matches none.
-- Depends on commands, and on the settings that a node keeps for each function.
use Rattle.std.specs.Prelude.{◌-◌, ◌^◌, nat_le, pos, negsuc, Bool, true, false, not, ◌&&◌, if◌then◌else◌, List, [], ◌∷◌, Option, Some, Ok}
use Rattle.def_term.specs.Tree.{Tree, Trees, int, atom, tuple, list, none, more}
use Rattle.def_term.specs.Order.{same}
use Rattle.def_term.specs.Names.{Mfa, word}
use Rattle.def_script.specs.Program.{Command, set_processes, set_function}
use Rattle.def_script.specs.Exports.{Exports}
use Rattle.def_script.specs.Limits.{PARAMETERS}
use Rattle.def_spec.specs.Expressions.{for_calls}
use Rattle.def_spec.specs.Flags.{Flags, no_flags, flags_listed}
use Rattle.def_spec.specs.Reading.{Reads, is_wildcard}
use Rattle.def_session.specs.Settings.{FunctionPattern, one, Setting, off, plain, by, FunctionSetting, trace_pattern_of, options_of, setting_of, has_among}
use Rattle.def_session.specs.State.{Phase, absent, live, destroyed, Session}
use Rattle.def_session.specs.Commands.{CommandResult, command_done, number_term, Procs, existing, new_processes, all_processes, procs_of, how_of}
use Rattle.def_explain.specs.CommandReasons.{any_setting}
use Rattle.def_explain.specs.CommandDifferences.{is_set_by_kind, is_internal_and_set}
use Rattle.def_explain.specs.Differences.{has_none}
use Rattle.def_running_node.specs.NodeSessions.{with_new_flags}

-- ---- flags

-- the processes are, or have among them, those that come
abbrev pub has_new_processes : Procs → Bool
has_new_processes new_processes = true
has_new_processes all_processes = true
has_new_processes procs = false

-- they are, or have among them, those that are there
abbrev pub has_existing : Procs → Bool
has_existing existing = true
has_existing all_processes = true
has_existing procs = false

-- after these flags were cleared, there are none for new processes
abbrev pub new_flags_cleared : Procs → (on : Bool) → Flags → Session → Session
new_flags_cleared procs on f s = if has_new_processes procs && (not on && not (has_none f)) then with_new_flags no_flags s else s

-- without flags nobody is counted
abbrev pub process_reply : Procs → Flags → Tree → Tree
process_reply procs f t = if has_existing procs && has_none f then number_term 0 else t

abbrev pub processes_by : Option Procs → Option Bool → Option Flags → CommandResult → CommandResult
processes_by (Some procs) (Some on) (Some f) r = (new_flags_cleared procs on f r.0, process_reply procs f r.1)
processes_by _ _ _ r = r

-- ---- settings of functions

-- one function disabled
abbrev pub disables : (local : Bool) → Mfa × Bool → FunctionSetting
disables local f = record { covered = one f.0; setting = off; local = local }

abbrev pub with_disabled : (local : Bool) → Mfa × Bool → Session → Session
with_disabled local f s = record s { functions = disables local f ∷ s.functions }

-- a matching function that has a setting of the command's own kind
abbrev pub is_of_own_kind : Session → FunctionPattern → (local : Bool) → Mfa × Bool → Bool
is_of_own_kind s covered local f = has_among (any_setting covered local) f.0 f.1 && is_set_by_kind s.functions local f

-- each of these functions in turn that is such is disabled
abbrev pub own_kind_disabled : FunctionPattern → (local : Bool) → List (Mfa × Bool) → Session → Session
own_kind_disabled covered local [] s = s
own_kind_disabled covered local (f ∷ fs) s = own_kind_disabled covered local fs (if is_of_own_kind s covered local f then with_disabled local f s else s)

-- each that isn't exported, and has a local setting
abbrev pub internal_disabled : FunctionPattern → List (Mfa × Bool) → Session → Session
internal_disabled covered [] s = s
internal_disabled covered (f ∷ fs) s = internal_disabled covered fs (if is_internal_and_set s covered f then with_disabled true f s else s)

-- what there is before a setting that isn't local
abbrev pub before_setting : Exports → Session → FunctionPattern → (local : Bool) → Session
before_setting o s covered true = s
before_setting o s covered false = internal_disabled covered o.functions s

-- with the setting
abbrev pub with_setting : FunctionPattern → Setting → (local : Bool) → Session → Session
with_setting covered setting local s = record s { functions = record { covered = covered; setting = setting; local = local } ∷ s.functions }

abbrev pub function_set_there : Exports → Session → FunctionPattern → (local : Bool) → Setting → Session
function_set_there o s covered local off = own_kind_disabled covered local o.functions s
function_set_there o s covered local plain = with_setting covered plain local (before_setting o s covered local)
function_set_there o s covered local (by k) = with_setting covered (by k) local (before_setting o s covered local)

abbrev pub function_by : Exports → Session → Option FunctionPattern → Option Bool → Reads Setting → CommandResult → CommandResult
function_by o s (Some covered) (Some local) (Ok setting) r = (function_set_there o s covered local setting, r.1)
function_by o s _ _ _ r = r

-- ---- options

-- each of these terms is this one
abbrev pub all_are_this : Tree → Trees → Bool
all_are_this t none = true
all_are_this t (more x xs) = same x t && all_are_this t xs

-- `[local]` or `[global]`
abbrev pub option_term : (local : Bool) → Tree
option_term local = list (more (word (if local then "local" else "global")) none)

-- a list of one option several times is read as the option alone
abbrev pub options_once : Tree → Tree
options_once (list (more x xs)) =
    if all_are_this (word "local") (more x xs) then option_term true else
    if all_are_this (word "global") (more x xs) then option_term false else list (more x xs)
options_once t = t

-- ---- arities

-- a small integer of the node, from -2^59 to 2^59 - 1, that is no arity
abbrev pub is_no_arity : Tree → Bool
is_no_arity (int (pos n)) = not (nat_le n PARAMETERS) && nat_le n (2 ^ 59 - 1)
is_no_arity (int (negsuc n)) = nat_le n (2 ^ 59 - 1)
is_no_arity t = false

-- M and F are the names of a module and a function, and A is such an integer
abbrev pub is_of_none : Tree → Tree → Tree → Bool
is_of_none (atom m) (atom f) a = not (is_wildcard m) && (not (is_wildcard f) && is_no_arity a)
is_of_none _ _ _ = false

-- {M,F,A} of such
abbrev pub matches_none : Tree → Bool
matches_none (tuple (more m (more f (more a none)))) = is_of_none m f a
matches_none t = false

-- then it sets nothing, and its reply is 0 where the options and the specification are read
abbrev pub reply_of_none : Option Bool → Reads Setting → Tree → Tree
reply_of_none (Some local) (Ok setting) t = number_term 0
reply_of_none _ _ t = t

abbrev pub function_reply : (mfa : Tree) → Option Bool → Reads Setting → Tree → Tree
function_reply mfa local setting t = if matches_none mfa then reply_of_none local setting t else t

-- ---- one command

abbrev pub node_function : Exports → Session → (local : Option Bool) → Reads Setting → (mfa : Tree) → CommandResult → CommandResult
node_function o s local setting mfa r =
    let set : CommandResult = function_by o s (trace_pattern_of mfa) local setting r in (set.0, function_reply mfa local setting set.1)

-- the command with each option once
abbrev pub command_once : Command → Command
command_once (set_function name mfa spec options) = set_function name mfa spec (options_once options)
command_once c = c

abbrev pub node_command_live : Exports → Session → Command → CommandResult
node_command_live o s (set_processes name procs how flags) = processes_by (procs_of procs) (how_of how) (flags_listed flags) (command_done o s (set_processes name procs how flags))
node_command_live o s (set_function name mfa spec options) =
    node_function o s (options_of options) (setting_of for_calls spec) mfa (command_done o s (set_function name mfa spec options))
node_command_live o s c = command_done o s c

abbrev pub node_command_in : Phase → Exports → Session → Command → CommandResult
node_command_in absent o s c = command_done o s c
node_command_in live o s c = node_command_live o s (command_once c)
node_command_in destroyed o s c = command_done o s c

abbrev pub node_command : Exports → Session → Command → CommandResult
node_command o s c = node_command_in s.phase o s c
