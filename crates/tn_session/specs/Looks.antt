-- What is seen of a session between two steps.
use Rattle.std.specs.Prelude.{Bool, true, false, Option}
use Rattle.std.specs.Option.{option_map}
use Rattle.std.specs.Borrow.{Bor}
use Rattle.def_term.specs.Names.{Mfa}
use Rattle.def_node.specs.Event as node
use Rattle.def_session.specs.Settings as settings
use Rattle.def_session.specs.State as definition
use Rattle.tn_spec.specs.Wholes.{spec_seen}
use Rattle.tn_spec.specs.declared.spec.Spec.{Spec}
use Rattle.tn_index.specs.declared.function_setting.Setting.{Setting}
use Rattle.tn_index.specs.declared.function_setting.Setting.TheVariants.{Disabled, Always, Specification}
use Rattle.tn_session.specs.Newest.{newest_with}
use Rattle.tn_session.specs.Views.{state_seen}
use Rattle.tn_session.specs.declared.look.Look.{Look}
use Rattle.tn_session.specs.declared.look.NewestSetting.{NewestSetting}

-- the session's state
abbrev pub look_seen : {A : Type 0} → Look A → definition.Session
look_seen l = state_seen l.state.now

-- it was created, and not destroyed
abbrev pub is_live : definition.Phase → Bool
is_live definition.absent = false
is_live definition.live = true
is_live definition.destroyed = false

-- a setting whose specification is borrowed
abbrev pub look_setting : {A : Type 0} → Setting (Bor (Spec A)) → settings.Setting
look_setting Disabled = settings.off
look_setting Always = settings.plain
look_setting (Specification s) = settings.by (spec_seen s.now)

-- what a command sets, and whether it is local
abbrev pub parts_of : settings.FunctionSetting → settings.Setting × Bool
parts_of k = (k.setting, k.local)

abbrev pub newest_seen : {A : Type 0} → NewestSetting A → settings.Setting × Bool
newest_seen k = (look_setting k.setting, k.local)

-- those of the newest command that has the function, exported or not, among its own
abbrev pub newest_among : {A : Type 0} → Look A → Mfa → Bool → Option (settings.Setting × Bool)
newest_among l f exported = option_map parts_of (newest_with (look_seen l).functions f exported)

-- of the called function
abbrev pub newest_for : {A : Type 0} → Look A → node.Call → Option (settings.Setting × Bool)
newest_for l c = newest_among l c.mfa c.exported
