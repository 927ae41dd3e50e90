-- What a node does otherwise by a function command, since it has a global and a local setting for each function (own, as measured on OTP 27.3.4 (erts 15.2.7)).
-- Depends on the function commands that a session accepted before, and on the functions of the program.
use Rattle.std.specs.Prelude.{◌≡◌, ◌≢◌, Bool, true, false, not, ◌&&◌, if◌then◌else◌, List, [], ◌∷◌, Option, Some, None, Ok}
use Rattle.std.specs.List.{list_any}
use Rattle.def_term.specs.Names.{Mfa}
use Rattle.def_script.specs.Program.{Command, set_function}
use Rattle.def_script.specs.Exports.{Exports}
use Rattle.def_spec.specs.Expressions.{for_calls}
use Rattle.def_spec.specs.Reading.{Reads}
use Rattle.def_session.specs.Settings.{FunctionPattern, Setting, off, plain, by, FunctionSetting, setting_of, trace_pattern_of, options_of, is_covered, has_among}
use Rattle.def_session.specs.State.{Phase, absent, live, destroyed, Session}
use Rattle.def_explain.specs.Lists.{One}
use Rattle.def_explain.specs.CommandReasons.{any_setting}
use Rattle.def_explain.specs.Differences.{Difference, leaves_other_setting, takes_local_setting, difference_where}

-- the newest of these commands that has the function, exported or not, among its own
abbrev pub newest_about : List FunctionSetting → Mfa → Bool → Option FunctionSetting
newest_about [] f exported = None
newest_about (k ∷ ks) f exported = if has_among k f exported then Some k else newest_about ks f exported

-- it is local, or global, and doesn't disable the function
abbrev pub IsSetByKind : List FunctionSetting → (local : Bool) → Mfa × Bool → Type 0
IsSetByKind ks local f = (k : FunctionSetting) × (newest_about ks f.0 f.1 ≡ Some k) × (k.setting ≢ off) × (k.local ≡ local)

-- a matching function has a setting of the other kind
abbrev pub IsSetOtherwise : Session → FunctionPattern → (local : Bool) → Mfa × Bool → Type 0
IsSetOtherwise s covered local f = (has_among (any_setting covered local) f.0 f.1 ≡ true) × IsSetByKind s.functions (not local) f

-- a function that isn't exported, and that the pattern covers, has a local setting
abbrev pub IsInternalAndSet : Session → FunctionPattern → Mfa × Bool → Type 0
IsInternalAndSet s covered f = (is_covered covered f.0 ≡ true) × (f.1 ≡ false) × IsSetByKind s.functions true f

-- a setting of these functions, of this kind, differs on a node: it disables one that has a setting of the other kind, or it is global and takes a local setting away
abbrev pub SettingDiffers : Exports → Session → FunctionPattern → (local : Bool) → Setting → Difference → Type 0
SettingDiffers o s covered local setting leaves_other_setting = (setting ≡ off) × One (IsSetOtherwise s covered local) o.functions
SettingDiffers o s covered local setting takes_local_setting = (setting ≢ off) × (local ≡ false) × One (IsInternalAndSet s covered) o.functions
SettingDiffers o s covered local setting x = ⊥

-- a node does this otherwise by a command that a live session accepts
abbrev pub CommandDiffers : Exports → Session → Command → Difference → Type 0
CommandDiffers o s (set_function name mfa spec options) x =
    (s.phase ≡ live)
    × ((covered : FunctionPattern) × (local : Bool) × (setting : Setting)
    × (trace_pattern_of mfa ≡ Some covered) × (options_of options ≡ Some local) × (setting_of for_calls spec ≡ Ok setting) × SettingDiffers o s covered local setting x)
CommandDiffers o s c x = ⊥

-- ---- the same, computed

-- a command that doesn't disable
abbrev pub is_on : Setting → Bool
is_on off = false
is_on plain = true
is_on (by s) = true

-- it is of this kind
abbrev pub is_of_kind : Bool → FunctionSetting → Bool
is_of_kind true k = k.local
is_of_kind false k = not k.local

abbrev pub is_on_of_kind : Bool → Option FunctionSetting → Bool
is_on_of_kind local None = false
is_on_of_kind local (Some k) = is_on k.setting && is_of_kind local k

abbrev pub is_set_by_kind : List FunctionSetting → (local : Bool) → Mfa × Bool → Bool
is_set_by_kind ks local f = is_on_of_kind local (newest_about ks f.0 f.1)

abbrev pub is_set_otherwise : Session → FunctionPattern → (local : Bool) → Mfa × Bool → Bool
is_set_otherwise s covered local f = has_among (any_setting covered local) f.0 f.1 && is_set_by_kind s.functions (not local) f

abbrev pub is_internal_and_set : Session → FunctionPattern → Mfa × Bool → Bool
is_internal_and_set s covered f = is_covered covered f.0 && (not f.1 && is_set_by_kind s.functions true f)

-- by the kind of a command that doesn't disable
abbrev pub taken_difference : Exports → Session → FunctionPattern → (local : Bool) → Option Difference
taken_difference o s covered true = None
taken_difference o s covered false = difference_where (list_any (is_internal_and_set s covered) o.functions) takes_local_setting

abbrev pub setting_difference : Exports → Session → FunctionPattern → (local : Bool) → Setting → Option Difference
setting_difference o s covered local off = difference_where (list_any (is_set_otherwise s covered local) o.functions) leaves_other_setting
setting_difference o s covered local plain = taken_difference o s covered local
setting_difference o s covered local (by k) = taken_difference o s covered local

-- where pattern, options and specification are read
abbrev pub read_difference : Exports → Session → Option FunctionPattern → Option Bool → Reads Setting → Option Difference
read_difference o s (Some covered) (Some local) (Ok setting) = setting_difference o s covered local setting
read_difference o s _ _ _ = None

-- of a command to a live session
abbrev pub live_difference : Exports → Session → Command → Option Difference
live_difference o s (set_function name mfa spec options) = read_difference o s (trace_pattern_of mfa) (options_of options) (setting_of for_calls spec)
live_difference o s c = None

-- what a node does otherwise by a command
abbrev pub difference_in : Phase → Exports → Session → Command → Option Difference
difference_in absent o s c = None
difference_in live o s c = live_difference o s c
difference_in destroyed o s c = None

abbrev pub command_difference : Exports → Session → Command → Option Difference
command_difference o s c = difference_in s.phase o s c
