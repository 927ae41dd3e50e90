-- What a term is read as where a command sets something.
use Rattle.std.specs.Prelude.{◌≡◌, ◌≤◌, MatchResult, Result, Ok, Err}
use Rattle.def_term.specs.Tree.{Tree, size}
use Rattle.def_spec.specs.Reading as reading
use Rattle.def_session.specs.Settings.{setting_of}
use Rattle.tn_spec.specs.declared.fault.SpecFault.{SpecFault}
use Rattle.tn_spec.specs.declared.fault.SpecFault.TheVariants.{Badarg, Unsupported, TooLarge, OutOfMemory}
use Rattle.tn_spec.specs.declared.func.Dialect.{Dialect}
use Rattle.tn_spec.specs.Views.{dialect_of}
use Rattle.tn_spec.specs.Readings.{TOO_LARGE}
use Rattle.tn_session.specs.Views.{setting_seen}
use Rattle.tn_index.specs.declared.function_setting.Setting.{Setting}
use Rattle.tn_session.specs.declared.shared_spec.SharedSpec.{SharedSpec}

-- a fault of a term that is read as a setting: its first, or that it is too large; want of memory reports nothing of it
abbrev pub IsSettingFaultIn : {A : Type 0} → Dialect → Tree → SpecFault A → Type 0
IsSettingFaultIn d t Badarg = setting_of (dialect_of d) t ≡ Err reading.badarg
IsSettingFaultIn d t (Unsupported s) = setting_of (dialect_of d) t ≡ Err (reading.unsupported s)
IsSettingFaultIn d t TooLarge = TOO_LARGE ≤ size t
IsSettingFaultIn d t OutOfMemory = Unit {0}

-- the setting that the term spells, or its fault
abbrev pub IsSettingRead : {A : Type 0} → Dialect → Tree → Result (Setting (SharedSpec A)) (SpecFault A) → Type 0
IsSettingRead d t result = MatchResult result (λ s. setting_of (dialect_of d) t ≡ Ok (setting_seen s)) (λ fault. IsSettingFaultIn d t fault)
