-- What the code's function commands stand for.
use Rattle.std.specs.Prelude.{Bool, ◌&&◌, ◌||◌}
use Rattle.def_term.specs.Names as names
use Rattle.def_session.specs.Settings as settings
use Rattle.def_session.specs.Settings.{is_covered}
use Rattle.tn_term.specs.Views.{mfa_seen}
use Rattle.tn_index.specs.declared.function_setting.FunctionPattern.{FunctionPattern}
use Rattle.tn_index.specs.declared.function_setting.FunctionPattern.TheVariants.{One, AnyArity, WholeModule, Every}
use Rattle.tn_index.specs.declared.function_setting.FunctionSetting.{FunctionSetting}

abbrev pub function_pattern_seen : {A : Type 0} → FunctionPattern A → settings.FunctionPattern
function_pattern_seen (One f) = settings.one (mfa_seen f)
function_pattern_seen (AnyArity m f) = settings.any_arity m f
function_pattern_seen (WholeModule m) = settings.whole_module m
function_pattern_seen Every = settings.every

-- the function is among those that the command matches: exported ones alone, if it is global
abbrev pub covers : {S A : Type 0} → FunctionSetting S A → names.Mfa → Bool → Bool
covers k f exported = is_covered (function_pattern_seen k.covered) f && (k.local || exported)
