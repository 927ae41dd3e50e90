-- Settings whose actions are on their own process alone.
-- Depends on sessions, and on specifications that act on their own process alone.
use Rattle.std.specs.Prelude.{Bool, true, Option, Some, None}
use Rattle.def_session.specs.Settings.{Setting}
use Rattle.def_independence.specs.OwnEffects.{setting_acts_on_self}

-- what a function command sets acts so, or there is none
abbrev pub acts_by : Option (Setting × Bool) → Bool
acts_by None = true
acts_by (Some k) = setting_acts_on_self k.0
