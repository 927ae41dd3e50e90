-- What the commands of a session alone set (own).
-- Depends on sessions and on runs.
use Rattle.std.specs.Prelude.{◌≡◌, ℕ, List}
use Rattle.def_term.specs.Names.{Name}
use Rattle.def_script.specs.Program.{Program}
use Rattle.def_spec.specs.Flags.{Flags}
use Rattle.def_session.specs.Settings.{FunctionSetting, Setting}
use Rattle.def_session.specs.State.{Phase, Session}
use Rattle.def_run.specs.Run.{run_state_of}
use Rattle.def_run.specs.View.{view}
use Rattle.def_run.specs.Listing.{state_of}

-- the phase, the accepted function commands, the send and receive settings and the flags of new processes
pub record Settings : Type 0 where
  pub phase : Phase
  pub functions : List FunctionSetting
  pub sending : Setting
  pub receiving : Setting
  pub new_process_flags : Flags

-- those of a session
abbrev pub settings_in : Session → Settings
settings_in s = record { phase = s.phase; functions = s.functions; sending = s.sending; receiving = s.receiving; new_process_flags = s.new_process_flags }

-- after picks that leave the same commands they are the same
abbrev pub CommandsDetermineSettings : Type 0
CommandsDetermineSettings =
    (s : Name) (p : Program) (a b : List ℕ) → (run_state_of p a).commands ≡ (run_state_of p b).commands →
    settings_in (state_of (view s p a)) ≡ settings_in (state_of (view s p b))
