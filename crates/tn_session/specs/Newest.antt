-- The newest of the function commands that were accepted.
use Rattle.std.specs.Prelude.{Bool, ◌||◌, List, [], ◌∷◌, Option, Some, None, if◌then◌else◌}
use Rattle.std.specs.Borrow.{Bor}
use Rattle.std.specs.Option.{option_map}
use Rattle.def_term.specs.Names.{Mfa}
use Rattle.def_session.specs.Settings.{FunctionSetting, Setting, off, has_among}
use Rattle.tn_index.specs.declared.function_setting.Setting as code
use Rattle.tn_session.specs.Views.{setting_seen}
use Rattle.tn_session.specs.declared.shared_spec.SharedSpec.{SharedSpec}

-- the first of these, which are the newest first, that has the function among its own
abbrev pub newest_with : List FunctionSetting → Mfa → Bool → Option FunctionSetting
newest_with [] f exported = None
newest_with (k ∷ ks) f exported = if has_among k f exported then Some k else newest_with ks f exported

-- no setting is a disabled one
abbrev pub setting_in : Option Setting → Setting
setting_in None = off
setting_in (Some s) = s

-- the setting that is lent; a disabled one where there is none
abbrev pub lent_setting : {A : Type 0} → Option (Bor (code.Setting (SharedSpec A))) → Setting
lent_setting r = setting_in (option_map (λ s. setting_seen s.now) r)

-- the setting of a command, where it concerns a call that names the module or not
abbrev pub setting_of_command : Option FunctionSetting → Bool → Setting
setting_of_command None named = off
setting_of_command (Some k) named = if k.local || named then k.setting else off
