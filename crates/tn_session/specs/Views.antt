-- What the code's state of a session stands for.
use Rattle.std.specs.Prelude.{◌≡◌, ◌-◌, Bool, List, [], ◌++◌, length, map, replicate, reverse, Option}
use Rattle.std.specs.Option.{option_map}
use Rattle.std.specs.declared.vec.Vec.{Vec}
use Rattle.def_term.specs.Names as names
use Rattle.def_term.specs.Alive.{PROCESSES}
use Rattle.def_session.specs.State as definition
use Rattle.def_session.specs.Settings as settings
use Rattle.tn_term.specs.Views.{mfa_seen, alive_of}
use Rattle.tn_flags.specs.Views.{flags_of, table_of}
use Rattle.tn_session.specs.SharedSpecs.{shared_seen}
use Rattle.tn_term.specs.declared.mfa.Mfa.{Mfa}
use Rattle.tn_session.specs.declared.shared_spec.SharedSpec.{SharedSpec}
use Rattle.tn_index.specs.Views.{function_pattern_seen}
use Rattle.tn_index.specs.declared.function_setting.Setting.{Setting}
use Rattle.tn_index.specs.declared.function_setting.Setting.TheVariants.{Disabled, Always, Specification}
use Rattle.tn_index.specs.declared.function_setting.FunctionPattern.{FunctionPattern}
use Rattle.tn_index.specs.declared.function_setting.FunctionSetting.{FunctionSetting}
use Rattle.tn_session.specs.declared.state.Phase.{Phase}
use Rattle.tn_session.specs.declared.state.Phase.TheVariants.{Live, Destroyed}
use Rattle.tn_session.specs.declared.state.Kind.{Kind}
use Rattle.tn_session.specs.declared.state.Kind.TheVariants.{Returns, Exceptions}
use Rattle.tn_session.specs.declared.state.Mark.{Mark}
use Rattle.tn_session.specs.declared.state.State.{State}

abbrev pub setting_seen : {A : Type 0} → Setting (SharedSpec A) → settings.Setting
setting_seen Disabled = settings.off
setting_seen Always = settings.plain
setting_seen (Specification s) = settings.by (shared_seen s)

abbrev pub function_setting_seen : {A : Type 0} → FunctionSetting (SharedSpec A) A → settings.FunctionSetting
function_setting_seen k = record { covered = function_pattern_seen k.covered; setting = setting_seen k.setting; local = k.local }

-- the newest first
abbrev pub settings_seen : {A : Type 0} → List (FunctionSetting (SharedSpec A) A) → List settings.FunctionSetting
settings_seen ks = map function_setting_seen ks

abbrev pub phase_seen : Phase → definition.Phase
phase_seen Live = definition.live
phase_seen Destroyed = definition.destroyed

abbrev pub mark_kind_seen : Kind → definition.MarkKind
mark_kind_seen Returns = definition.for_returns
mark_kind_seen Exceptions = definition.for_exceptions

abbrev pub mark_seen : Mark → definition.Mark
mark_seen m = record { depth = m.depth; kind = mark_kind_seen m.kind }

-- marks whose newest is the last, seen newest first
abbrev pub newest_first : List Mark → List definition.Mark
newest_first ms = map mark_seen (reverse ms)

-- the marks of a process
abbrev pub process_marks_seen : {A : Type 0} → Vec Mark A → List definition.Mark
process_marks_seen ms = newest_first ms.items

-- the marks of all processes; those past the end have none
abbrev pub marks_seen : {A : Type 0} → List (Vec Mark A) → List (List definition.Mark)
marks_seen ms = map process_marks_seen ms ++ replicate (PROCESSES - length ms) []

-- a function of the program, with whether it is exported
abbrev pub function_seen : {A : Type 0} → Mfa A × Bool → names.Mfa × Bool
function_seen f = (mfa_seen f.0, f.1)

abbrev pub state_seen : {A : Type 0} → State A → definition.Session
state_seen s = record {
  phase = phase_seen s.phase;
  alive = alive_of s.alive;
  flags = table_of s.flags;
  new_process_flags = flags_of s.new_process_flags;
  functions = settings_seen s.settings;
  sending = setting_seen s.sending;
  receiving = setting_seen s.receiving;
  marks = marks_seen s.marks.items;
}

-- the functions that are read, or none
abbrev pub Covers : {A : Type 0} → Option settings.FunctionPattern → Option (FunctionPattern A) → Type 0
Covers read found = option_map function_pattern_seen found ≡ read
