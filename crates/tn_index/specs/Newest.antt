-- The newest of the function commands that were accepted.
use Rattle.std.specs.Prelude.{Bool, List, [], ◌∷◌, Option, Some, None, if◌then◌else◌}
use Rattle.def_term.specs.Names.{Mfa}
use Rattle.tn_index.specs.declared.function_setting.FunctionSetting.{FunctionSetting}
use Rattle.tn_index.specs.Views.{covers}

-- the first of these, which are the newest first, that has the function among its own
abbrev pub newest_setting : {S A : Type 0} → List (FunctionSetting S A) → Mfa → Bool → Option (FunctionSetting S A)
newest_setting [] f exported = None
newest_setting (k ∷ ks) f exported = if covers k f exported then Some k else newest_setting ks f exported
